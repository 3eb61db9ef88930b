-- Sources of equal meaning give equal results.
use Rattle.std.proofs.Common.{◌≡◌, sym, refl, subst}
use Rattle.syntax.specs.Meaning.{Meaning}
use Rattle.rules.proofs.Held.{holding_once}
use Rattle.rules.specs.Agreement.{Alike, TreesAgree}
use Rattle.rules.specs.Holding.{Holds}
use Rattle.rules.specs.Runs.{new, lowered}

itself : (m : Meaning) → Alike m m
itself m = record { calls_answer = λ calls. refl; inventories = λ calls. refl; use_trees = λ n. refl; imports = λ calls id. refl; constructors = λ x. refl; texts = λ calls. refl; printings = λ calls room. refl }

pub alike : (m n : Meaning) → m ≡ n → Alike m n
alike m n e = subst (Alike m) e (itself m)

pub trees_agree_lem : TreesAgree
trees_agree_lem m n e calls top top' index index' attrs attrs' p q =
    holding_once top top' index index' attrs attrs' (lowered m new calls).entries (lowered m new calls).top p
    (subst (λ k. Holds top' index' attrs' (lowered k new calls).entries (lowered k new calls).top) (sym e) q)
