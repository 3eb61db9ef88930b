-- Sources of equal meaning give equal results, whatever implements them.
use Rattle.std.specs.Prelude.{◌≡◌, ℕ, List, Option}
use Rattle.syntax.specs.Meaning.{Meaning}
use Rattle.syntax.specs.declared.walk.NodeRef.{NodeRef}
use Rattle.items.specs.Attributes.{AttrList}
use Rattle.rules.specs.Constructors.{constructor_of}
use Rattle.rules.specs.Holding.{Indexed, Holds}
use Rattle.rules.specs.Printed.{printing, printed}
use Rattle.rules.specs.Reading.{expanded, use_lowering}
use Rattle.rules.specs.Runs.{Call, new, answers, lowered}

-- what is determined by two meanings is the same
pub record Alike (m n : Meaning) : Type 0 where
  pub calls_answer : (calls : List Call) → answers m new calls ≡ answers n new calls
  pub inventories : (calls : List Call) → (lowered m new calls).entries ≡ (lowered n new calls).entries
  pub use_trees : (number : ℕ) → use_lowering m number ≡ use_lowering n number
  pub imports : (calls : List Call) (id : ℕ) → expanded (lowered m new calls).entries id ≡ expanded (lowered n new calls).entries id
  pub constructors : (x : NodeRef) → constructor_of m x ≡ constructor_of n x
  pub texts : (calls : List Call) → printed m (lowered m new calls).top (lowered m new calls).entries ≡ printed n (lowered n new calls).top (lowered n new calls).entries
  pub printings : (calls : List Call) (room : ℕ) → printing m (lowered m new calls).top (lowered m new calls).entries room ≡ printing n (lowered n new calls).top (lowered n new calls).entries room

-- trees that hold what the same calls made of them are read alike
abbrev pub TreesAgree : Type 0
TreesAgree =
    (m n : Meaning) → m ≡ n → (calls : List Call) →
    (top top' : List ℕ) (index index' : ℕ → Option Indexed) (attrs attrs' : ℕ → Option (Option AttrList)) →
    Holds top index attrs (lowered m new calls).entries (lowered m new calls).top → Holds top' index' attrs' (lowered n new calls).entries (lowered n new calls).top →
    (top ≡ top') × ((id : ℕ) → index id ≡ index' id) × ((id : ℕ) → attrs id ≡ attrs' id)
