-- Parts of the table of attributes, joined into one.
use Rattle.std.proofs.Common.{◌≡◌, Bool, true, false, cond, eqb, List, [], ◌++◌, length, take, drop, Ok, sym, refl, ap, ◌∙◌, subst, append-nil, arith, length-drop, eq-eqb}
use lib.Seq.{take-append-le, drop-append-le}
use Rattle.tables.proofs.Rows.{length-held-le}
use Rattle.tables.specs.Parts.{Inside, rows_of}
use Rattle.tables.specs.declared.part.Part.{Part}
use Rattle.items.specs.Records.{part_of}
use Rattle.items.specs.declared.attrs.Attr.{Attr}
use Rattle.items.specs.declared.attrs.AttrsOrCfg.{AttrsOrCfg}
use Rattle.items.specs.declared.attrs.AttrsOrCfg.TheVariants.{CfgDisabled}
use Rattle.items.specs.declared.attrs.CfgExpr.{CfgExpr}
use Rattle.tree_tables.specs.Contents.{Shown, shown_of}
use Rattle.tree_tables.specs.Growth.{Became, with_attrs}
use Rattle.tree_tables.specs.Lists.{copied, add_attrs, Joins, Merges}
use Rattle.tree_tables.specs.declared.tree.TreeTables.{TreeTables}

-- a part with no rows
part_none : (rows : List Attr) (a : Part Attr) → a.count ≡ 0 → rows_of rows a ≡ []
part_none rows a e = rw e refl

-- what is appended leaves a part as it is
pub part_append : (rows more : List Attr) (a : Part Attr) → Inside rows a → rows_of (rows ++ more) a ≡ rows_of rows a
part_append rows more a h =
    let d = length-drop a.first rows in
    ap (take a.count) (drop-append-le a.first rows more (omega arith)) ∙ take-append-le a.count (drop a.first rows) more (omega arith)

add_none : (c : Shown) → add_attrs [] c ≡ c
add_none c i = with_attrs (append-nil c.attrs i) c

copied-first : (rows : List Attr) (a b : Part Attr) → a.count ≡ 0 → copied rows a b ≡ []
copied-first rows a b e = rw (eq-eqb a.count 0 e) refl

both : (x : Bool) {A : Type 0} (xs : List A) → cond x [] (cond true [] xs) ≡ []
both true xs = refl
both false xs = refl

copied_second : (rows : List Attr) (a b : Part Attr) → b.count ≡ 0 → copied rows a b ≡ []
copied_second rows a b e = rw (eq-eqb b.count 0 e) (both (eqb a.count 0) (rows_of rows a ++ rows_of rows b))

module _ (t : TreeTables) (a b : Part Attr) where
  nothing-added : copied (shown_of t).attrs a b ≡ [] → shown_of t ≡ add_attrs (copied (shown_of t).attrs a b) (shown_of t)
  nothing-added none = sym (ap (λ (xs : List Attr). add_attrs xs (shown_of t)) none ∙ add_none (shown_of t))

  pub joins_first : a.count ≡ 0 → Inside (shown_of t).attrs b → Joins a b t t (Ok b)
  unfolding Joins Became
  joins_first e inside =
      let rows = (shown_of t).attrs in
      let none = copied-first rows a b e in
      let l = ap length none in
      let few = length-held-le t.attrs in
      (omega arith, nothing-added none, inside, sym (ap (λ (xs : List Attr). xs ++ rows_of rows b) (part_none rows a e)))

  pub joins_second : b.count ≡ 0 → Inside (shown_of t).attrs a → Joins a b t t (Ok a)
  unfolding Joins Became
  joins_second e inside =
      let rows = (shown_of t).attrs in
      let none = copied_second rows a b e in
      let l = ap length none in
      let few = length-held-le t.attrs in
      (omega arith, nothing-added none, inside, sym (ap (λ (xs : List Attr). rows_of rows a ++ xs) (part_none rows b e) ∙ append-nil (rows_of rows a)))

pub merges_disabled : (t : TreeTables) (first second : AttrsOrCfg) (cfg : CfgExpr) (a : Part Attr) → first ≡ CfgDisabled cfg a → Inside (shown_of t).attrs (part_of first) → Inside (shown_of t).attrs (part_of second) → Merges first second t t (Ok first)
unfolding Merges Became
merges_disabled t first second cfg a e inside known =
    let P : AttrsOrCfg → Type 0 = λ f. Inside (shown_of t).attrs (part_of f) → Merges f second t t (Ok f) in
    subst P (sym e) (λ k. let few = length-held-le t.attrs in ((k, known), omega arith, sym (add_none (shown_of t)), k, refl)) inside
