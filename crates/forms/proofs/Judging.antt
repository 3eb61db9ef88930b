-- The ways of judging tables.
use Rattle.std.proofs.Common.{◌≡◌, ℕ, ◌<◌, ◌≤◌, true, false, leb, List, take, refl, arith}
use Rattle.std.proofs.lemmas.Bool.{le-leb, lt-leb, leb-true, and_left, and_right, and_parts}
use Rattle.forms.specs.declared.tables.Tables.{Tables}
use Rattle.syntax.specs.Law.{lawful_texts, lawful_nodes}
use Rattle.forms.specs.Tables.{spanned_all}
use Rattle.forms.specs.Judged.{lawful_tables}

module _ (bytes : List ℕ) (tables : Tables) where
  abbrev n : ℕ
  n = tables.counts.nodes

  abbrev t : ℕ
  t = tables.counts.texts

  pub no_nodes : n ≡ 0 → lawful_tables bytes tables ≡ false
  unfolding lawful_tables
  no_nodes z = and_left (leb 1 n) _ (lt-leb 1 n (omega arith))

  pub many_nodes : 4096 < n → lawful_tables bytes tables ≡ false
  unfolding lawful_tables
  many_nodes more = and_right (leb 1 n) _ (and_left (leb n 4096) _ (lt-leb n 4096 more))

  pub many_texts : 1024 < t → lawful_tables bytes tables ≡ false
  unfolding lawful_tables
  many_texts more = and_right (leb 1 n) _ (and_right (leb n 4096) _ (and_left (leb t 1024) _ (lt-leb t 1024 more)))

  pub bad-texts : lawful_texts (spanned_all bytes (take t tables.texts)) ≡ false → lawful_tables bytes tables ≡ false
  unfolding lawful_tables
  bad-texts h = and_right (leb 1 n) _ (and_right (leb n 4096) _ (and_right (leb t 1024) _ (and_left (lawful_texts (spanned_all bytes (take t tables.texts))) _ h)))

  pub good_texts : 0 < n → n ≤ 4096 → t ≤ 1024 → lawful_texts (spanned_all bytes (take t tables.texts)) ≡ true → lawful_tables bytes tables ≡ lawful_nodes t (take n tables.nodes)
  unfolding lawful_tables
  good_texts a b d h = rw (le-leb 1 n a, le-leb n 4096 b, le-leb t 1024 d, h) refl

  pub limits : lawful_tables bytes tables ≡ true → (n ≤ 4096) × (t ≤ 1024)
  unfolding lawful_tables
  limits h =
      let a = and_parts (leb 1 n) _ h in
      let b = and_parts (leb n 4096) _ a.1 in
      let d = and_parts (leb t 1024) _ b.1 in
      (leb-true n 4096 b.0, leb-true t 1024 d.0)
