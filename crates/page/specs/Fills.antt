-- What filling a buffer comes to.
use Rattle.std.specs.Prelude.{◌≡◌, ◌<◌, ◌⊎◌, ℕ, List, [], Result, Ok, Err, length}
use Rattle.std.specs.Borrow.{MutBor}
use Rattle.syntax.specs.declared.refusal.Needed.TheVariants.{Bytes}
use Rattle.syntax.specs.declared.refusal.Refusal.{Refusal}
use Rattle.syntax.specs.declared.refusal.Refusal.TheVariants.{TooShort}

-- a writer on a buffer: the buffer as it is passed, the answer, the buffer as it is left
abbrev pub Writing : Type 1
Writing = MutBor (List ℕ) → Result ℕ Refusal → MutBor (List ℕ) → Type 0

-- a run of the writer may answer `answer`, and leave the buffer `before` as `after`
pub record Runs (writing : Writing) (before : List ℕ) (answer : Result ℕ Refusal) (after : List ℕ) : Type 0 where
  pub passed : MutBor (List ℕ)
  pub left : MutBor (List ℕ)
  pub met : writing passed answer left
  pub begins : passed.now ≡ before
  pub ends : left.now ≡ after

-- a run without room answers the length, and there is room for it: the buffer is as a second run leaves it
pub record Filled (writing : Writing) (before : List ℕ) (len : ℕ) (after : List ℕ) : Type 0 where
  pub measured : Runs writing [] (Ok len) []
  pub second : Result ℕ Refusal
  pub written : Runs writing before second after

-- a run without room is refused so, or answers a length for which there is no room
abbrev pub Declined : Writing → List ℕ → Refusal → Type 0
Declined writing before refusal =
    Runs writing [] (Err refusal) []
    ⊎ ((len : ℕ) × Runs writing [] (Ok len) [] × (length before < len) × (refusal ≡ TooShort (Bytes len)))
