use Rattle.std.proofs.Common.{refl, arith}
use Rattle.syntax.specs.Law.{sound, lawful_nodes, lawful}
use Rattle.forms.proofs.packed.PackedSource.least.Goals as goal

pub invariant_of-result : goal.invariant_of-result
unfolding sound lawful_nodes lawful
invariant_of-result c = record {
  few = (omega arith, omega arith);
  within = λ k less. absurd (omega arith);
  ruled = refl;
}
