-- The worked examples, computed.
use Rattle.std.proofs.Common.{refl}
use Rattle.std.specs.Fmt.{digits}
use Rattle.syntax.specs.Law.{sound, is_child, place_after, lawful_nodes, is_text, lawful}
use Rattle.rules.specs.Examples.{eight, further, Stand, ModuleStands, RunsStand, run_rows, NamelessStands, PrintsStand, prints, RoomStands, ExamplesStand}
use Rattle.rules.specs.Printed.{printed, missing}

eight-stand : Stand eight
unfolding sound is_child place_after lawful_nodes is_text lawful
eight-stand = (refl, refl, (refl, refl, (refl, refl, (refl, refl, (refl, refl, (refl, refl, (refl, refl, (refl, refl, tt))))))))

further-stand : Stand further
unfolding sound is_child place_after lawful_nodes is_text lawful
further-stand = (refl, refl, (refl, refl, (refl, refl, (refl, refl, (refl, refl, (refl, refl, (refl, refl, (refl, refl, (refl, refl, (refl, refl, (refl, refl, (refl, refl, (refl, refl, (refl, refl, (refl, refl, (refl, refl, (refl, refl, tt)))))))))))))))))

module_stands : ModuleStands
unfolding sound is_child place_after lawful_nodes is_text lawful
module_stands = (refl, refl)

runs_stand_lem : RunsStand run_rows
unfolding sound is_child place_after lawful_nodes is_text lawful
runs_stand_lem = (refl, refl, (refl, refl, (refl, refl, (refl, refl, (refl, refl, (refl, refl, (refl, refl, tt)))))))

nameless-stands : NamelessStands
nameless-stands = (refl, refl)

prints-stand : PrintsStand prints
unfolding sound is_child place_after lawful_nodes is_text lawful printed digits
prints-stand = (refl, refl, (refl, refl, (refl, refl, (refl, refl, (refl, refl, (refl, refl, (refl, refl, (refl, refl, tt))))))))

room-stands : RoomStands
unfolding printed missing digits
room-stands = (refl, refl, refl)

pub examples_stand_lem : ExamplesStand
examples_stand_lem = (eight-stand, further-stand, module_stands, runs_stand_lem, nameless-stands, prints-stand, room-stands)
