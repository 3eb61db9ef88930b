-- Text that goes to a sink.
use Rattle.std.specs.Prelude.{ℕ, ◌+◌, List, [], ◌∷◌, slice_set, min}
use Rattle.page.specs.declared.sink.Sink.{Sink}

-- the length of the text, and the buffer
abbrev pub held : Sink → ℕ × List ℕ
held sink = (sink.len, sink.buf.now)

-- the same after these bytes: each is counted, up to the largest `usize`, and one that finds no room is lost
abbrev pub said : List ℕ → ℕ × List ℕ → ℕ × List ℕ
said [] (len, buf) = (len, buf)
said (byte ∷ bytes) (len, buf) = said bytes (min (len + 1) 18446744073709551615, slice_set buf len byte)
