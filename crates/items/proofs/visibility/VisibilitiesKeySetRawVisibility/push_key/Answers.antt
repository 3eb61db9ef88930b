use Rattle.std.proofs.Common.{ap, ◌∙◌}
use Rattle.tables.specs.Sets.{distinct}
use Rattle.items.proofs.Apart.{apart_pushed}
use Rattle.items.specs.Recorded.{same_visibility}
use Rattle.items.proofs.visibility.VisibilitiesKeySetRawVisibility.push_key.Goals as goal

pub invariant_of-self : goal.invariant_of-self
invariant_of-self c =
    let apart = c.args.self.now.apart in
    record { apart = (apart_pushed c.push.result _ _ _ c.push.ensures.pushes c.requires apart.0, ap (distinct same_visibility) c.push.ensures.marked ∙ apart.1) }
