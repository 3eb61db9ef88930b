-- Tables that are read and judged, against what the form means.
use Rattle.std.proofs.Common.{◌≡◌, ℕ, ◌≤◌, true, false, ◌&&◌, leb, List, length, sym, ap, ◌∙◌, subst, ⊎_elim, arith}
use Rattle.std.proofs.lemmas.Bool.{cases_lt, lt-leb, and_left, and_right}
use Rattle.syntax.specs.Meaning.{Meaning}
use Rattle.syntax.specs.declared.refusal.Refusal.TheVariants.{Law}
use Rattle.forms.specs.declared.tables.Tables.{Tables}
use Rattle.forms.specs.Judged.{lawful_tables}
use Rattle.syntax.specs.Law.{lawful_texts, lawful_nodes, lawful}
use Rattle.forms.specs.Opening.{CauseOf, Opens, Refuses}
use Rattle.forms.specs.Reading.{FormRead}
use Rattle.forms.specs.Tables.{SpansWithin, table_meaning}
use Rattle.forms.proofs.Exactness.{Exact, refuses_law, opens_form}
use Rattle.forms.proofs.Judging.{limits, many_nodes, many_texts}

module _ {FormOf : Meaning → Type 0} {form number : Type 0} (exact : Exact FormOf form number) (bytes : List ℕ) (tables : Tables) (read : FormRead FormOf bytes tables) where
  abbrev m : Meaning
  m = read.meaning

  abbrev n : ℕ
  n = tables.counts.nodes

  abbrev t : ℕ
  t = tables.counts.texts

  held : n ≤ 4096 → t ≤ 1024 → m ≡ table_meaning tables bytes
  held few short = sym (λ i. record { nodes = read.nodes_held (omega (arith, few, tables.room)) i; texts = read.texts_held (omega (arith, short, tables.room)) i })

  -- the law by the counts that were read
  by-counts : lawful m ≡ (leb 1 n && (leb n 4096 && (leb t 1024 && (lawful_texts m.texts && lawful_nodes t m.nodes))))
  unfolding lawful
  by-counts = λ i. leb 1 (read.node_count i) && (leb (read.node_count i) 4096 && (leb (read.text_count i) 1024 && (lawful_texts m.texts && lawful_nodes (read.text_count i) m.nodes)))

  lawful-is : lawful m ≡ lawful_tables bytes tables
  unfolding lawful_tables
  lawful-is =
      by-counts
      ∙ ⊎_elim
      (λ more. and_right (leb 1 n) _ (and_left (leb n 4096) _ (lt-leb n 4096 more)) ∙ sym (many_nodes bytes tables more))
      (λ few. ⊎_elim
      (λ more. and_right (leb 1 n) _ (and_right (leb n 4096) _ (and_left (leb t 1024) _ (lt-leb t 1024 more))) ∙ sym (many_texts bytes tables more))
      (λ short. ap (λ (k : Meaning). leb 1 n && (leb n 4096 && (leb t 1024 && (lawful_texts k.texts && lawful_nodes t k.nodes)))) (held few short))
      (cases_lt 1024 t))
      (cases_lt 4096 n)

  pub unlawful : lawful_tables bytes tables ≡ false → Refuses FormOf (CauseOf FormOf form number) Law
  unlawful h = refuses_law exact m read.form (lawful-is ∙ h)

  module _ (h : lawful_tables bytes tables ≡ true) where
    pub law-read : lawful m ≡ true
    law-read = lawful-is ∙ h

    same : m ≡ table_meaning tables bytes
    same = let l = limits bytes tables h in held l.0 l.1

    pub ruled : lawful (table_meaning tables bytes) ≡ true
    ruled = ap lawful (sym same) ∙ law-read

    pub opened : Opens FormOf (CauseOf FormOf form number) (table_meaning tables bytes)
    opened = opens_form exact (table_meaning tables bytes) (subst FormOf same read.form) ruled

    pub within : SpansWithin tables.texts t (length bytes)
    within = read.within (omega (arith, (limits bytes tables h).1, tables.room))
