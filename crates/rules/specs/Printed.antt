-- The layout of a printed text.
use Rattle.std.specs.Prelude.{◌≡◌, ℕ, ◌+◌, ◌-◌, ◌*◌, Bool, true, false, cond, ◌||◌, List, [], ◌∷◌, ◌++◌, reverse, length, replicate, is_some, Ok, Err, Result, ◌==◌, nat_le}
use Rattle.std.specs.Option.{unwrap_or}
use Rattle.syntax.specs.Meaning.{Meaning, text_at}
use Rattle.syntax.specs.declared.refusal.Needed.TheVariants.{Bytes}
use Rattle.syntax.specs.declared.refusal.Refusal.{Refusal}
use Rattle.syntax.specs.declared.refusal.Refusal.TheVariants.{TooShort, MissingText}
use Rattle.items.specs.Attributes.{AttrList}
use Rattle.rules.specs.Entries.{Entries}
use Rattle.rules.specs.Pieces.{Piece, bytes, text, blank_line, trim, deeper, back, pieces}

-- the text so far, the last byte first, the level, and whether a line is due to begin
pub record Page : Type 0 where
  pub backwards : List ℕ
  pub level : ℕ
  pub fresh : Bool

abbrev pub start : Page
start = record { backwards = []; level = 0; fresh = true }

abbrev pub newline : ℕ
newline = 10

-- a newline, unless the text is empty or ends with one
abbrev ended : List ℕ → List ℕ
ended [] = []
ended (b ∷ before) = cond (b == newline) (b ∷ before) (newline ∷ b ∷ before)

-- four spaces for each level
abbrev begun : ℕ → List ℕ → List ℕ
begun level before = replicate (4 * level) 32 ++ ended before

-- a line is begun if one is due; after a newline one is
abbrev pub byte : Page → ℕ → Page
byte p b = record { backwards = b ∷ cond p.fresh (begun p.level p.backwards) p.backwards; level = p.level; fresh = (b == newline) }

abbrev pub say : Page → List ℕ → Page
say p [] = p
say p (b ∷ later) = say (byte p b) later

-- newlines until there are two; none if the text is empty or a single newline
abbrev pub with_blank : List ℕ → List ℕ
with_blank [] = []
with_blank (a ∷ []) = cond (a == newline) (a ∷ []) (newline ∷ newline ∷ a ∷ [])
with_blank (a ∷ b ∷ before) = cond (a == newline) (cond (b == newline) (a ∷ b ∷ before) (newline ∷ a ∷ b ∷ before)) (newline ∷ newline ∷ a ∷ b ∷ before)

-- no newlines at the end
abbrev pub trimmed : List ℕ → List ℕ
trimmed [] = []
trimmed (b ∷ before) = cond (b == newline) (trimmed before) (b ∷ before)

-- a piece is written, over the texts of a source
abbrev pub put : Meaning → Page → Piece → Page
put m p (bytes bs) = say p bs
put m p (text number) = say p (unwrap_or (text_at m number) [])
put m p blank_line = record { backwards = with_blank p.backwards; level = p.level; fresh = p.fresh }
put m p trim = record { backwards = trimmed p.backwards; level = p.level; fresh = p.fresh }
put m p deeper = record { backwards = p.backwards; level = p.level + 1; fresh = p.fresh }
put m p back = record { backwards = p.backwards; level = p.level - 1; fresh = p.fresh }

abbrev pub laid_out : Meaning → Page → List Piece → Page
laid_out m p [] = p
laid_out m p (x ∷ later) = laid_out m (put m p x) later

-- at the end all newlines are removed and one is added
abbrev pub whole : Page → List ℕ
whole p = reverse (newline ∷ trimmed p.backwards)

-- the printed text of an inventory, after the attributes of the top level
unfoldable pub printed : Meaning → AttrList → Entries → List ℕ
printed m top es = whole (laid_out m start (pieces top es))

-- a text to be printed is not in the source
abbrev absent : Meaning → Piece → Bool
absent m (bytes bs) = false
absent m (text number) = cond (is_some (text_at m number)) false true
absent m blank_line = false
absent m trim = false
absent m deeper = false
absent m back = false

abbrev pub any_absent : Meaning → List Piece → Bool
any_absent m [] = false
any_absent m (x ∷ later) = absent m x || any_absent m later

unfoldable pub missing : Meaning → AttrList → Entries → Bool
missing m top es = any_absent m (pieces top es)

-- what printing answers, with so much room: the length of the text; a missing text comes before want of room
abbrev pub printing : Meaning → AttrList → Entries → ℕ → Result ℕ Refusal
printing m top es room =
    cond (missing m top es) (Err MissingText)
    (cond (nat_le (length (printed m top es)) room) (Ok (length (printed m top es))) (Err (TooShort (Bytes (length (printed m top es))))))

-- whatever is printed, the level is back to what it was
abbrev pub LevelsBack : Type 0
LevelsBack = (m : Meaning) (p : Page) (top : AttrList) (es : Entries) → (laid_out m p (pieces top es)).level ≡ p.level

-- of a text backwards: it ends with one newline, and no newline stands before that
abbrev pub EndsOnce : List ℕ → Type 0
EndsOnce [] = ⊥
EndsOnce (b ∷ before) = (b ≡ newline) × (trimmed before ≡ before)

abbrev pub TextsEnd : Type 0
TextsEnd = (m : Meaning) (top : AttrList) (es : Entries) → EndsOnce (reverse (printed m top es))
