use Rattle.std.proofs.Common.{length, refl}
use Rattle.std.proofs.lemmas.Bool.{le-leb}
use Rattle.syntax.specs.Law.{sound, is_child, lawful_nodes, is_text, lawful}
use Rattle.syntax_tests.proofs.one_module.OneModule.new.Goals as goal

pub invariant_of-result : goal.invariant_of-result
unfolding sound is_child lawful_nodes is_text lawful
invariant_of-result c =
    let n = length c.args.name.now in
    record { ruled = rw (le-leb 1 n c.requires.0, le-leb n 255 c.requires.1) refl }
