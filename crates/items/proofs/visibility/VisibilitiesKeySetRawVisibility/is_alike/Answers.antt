use Rattle.std.proofs.Common.{◌≡◌, Some, Option, ap, ◌∙◌, rules}
use Rattle.std.specs.Bool.{Decides}
use Rattle.tables.specs.Sets.{same_at}
use Rattle.tables.proofs.Sets.{decided}
use Rattle.items.specs.Recorded.{same_visibility, visibility_equality}
use Rattle.items.specs.declared.visibility.RawVisibility.{RawVisibility}
use Rattle.items.proofs.visibility.VisibilitiesKeySetRawVisibility.is_alike.Goals as goal

pub returns : goal.returns
returns c =
    let equal : Decides c.eq.result (c.get.result ≡ Some c.args.key.now) = (search rules, search rules) in
    decided same_visibility visibility_equality _ c.get.result _ equal ∙ ap (λ (o : Option RawVisibility). same_at same_visibility o c.args.key.now) c.get.ensures
