use Rattle.std.proofs.Common.{◌≡◌, drop}
use Rattle.page.specs.Sinks.{held, said}
use Rattle.page.proofs.sink.Sink.say.Given as goal

abbrev pub invariant-loop-byte : goal.invariant-loop-byte
invariant-loop-byte l = said (drop l.byte-index l.bytes) (held l.self) ≡ said l.bytes (held l.initial.self)
