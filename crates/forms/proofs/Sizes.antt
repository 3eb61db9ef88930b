-- Forms are made of bytes and words.
use Rattle.std.proofs.Common.{ℕ, zero, suc, ◌/◌, ◌^◌, ◌<◌, List, [], ◌∷◌, ◌++◌, sym, subst, ⊎_elim, arith}
use Rattle.std.specs.List.{flat_map, AllByRecursion}
use Rattle.std.proofs.ByRecursion.{All-append}
use Rattle.std.proofs.lemmas.Bool.{cases_lt}
use Rattle.syntax.specs.Meaning.{Meaning}
use Rattle.syntax.specs.declared.node.Node.{Node}
use Rattle.forms.specs.Agreement.{Byte, Word, Sized}
use Rattle.forms.specs.Form.{Field, number, content, in_bytes, Narrow, node_fields, text_fields, form_fields}
use Rattle.forms.specs.Numbers.{groups, encoded, bound}
use Rattle.forms.specs.Words.{node_words}
use Rattle.forms.proofs.Groups.{groups-one, groups_more}

groups-bytes : (more n : ℕ) → n < bound more → AllByRecursion Byte (groups more n)
groups-bytes zero n less = (omega arith, tt)
groups-bytes (suc more) n less =
    ⊎_elim
    (λ low. subst (AllByRecursion Byte) (sym (groups-one (suc more) n low)) (omega arith, tt))
    (λ high. subst (AllByRecursion Byte) (sym (groups_more more n high)) (omega arith, groups-bytes more (n / 128) (omega arith)))
    (cases_lt n 128)

encoded-bytes : (n : ℕ) → n < 2 ^ 32 → AllByRecursion Byte (encoded n)
unfolding encoded
encoded-bytes n less = groups-bytes 4 n less

-- the bytes of texts among fields
abbrev Contents : List Field → Type 0
Contents [] = Unit {0}
Contents (number n ∷ fields) = Contents fields
Contents (content t ∷ fields) = AllByRecursion Byte t × Contents fields

fields_bytes : (fields : List Field) → Narrow fields → Contents fields → AllByRecursion Byte (in_bytes fields)
fields_bytes [] p q = tt
fields_bytes (number n ∷ fields) p q = All-append Byte (encoded n) (in_bytes fields) (encoded-bytes n p.0) (fields_bytes fields p.1 q)
fields_bytes (content t ∷ fields) p q = All-append Byte t (in_bytes fields) q.0 (fields_bytes fields p q.1)

node_contents : (xs : List Node) (fields : List Field) → Contents fields → Contents (flat_map node_fields xs ++ fields)
node_contents [] fields q = q
node_contents (x ∷ xs) fields q = node_contents xs fields q

text_contents : (ts : List (List ℕ)) → AllByRecursion (AllByRecursion Byte) ts → Contents (flat_map text_fields ts)
text_contents [] q = tt
text_contents (t ∷ ts) q = (q.0, text_contents ts q.1)

pub packed-bytes : (m : Meaning) → Sized m → AllByRecursion Byte (in_bytes (form_fields m))
packed-bytes m s = fields_bytes (form_fields m) s.numbers (node_contents m.nodes (flat_map text_fields m.texts) (text_contents m.texts s.bytes))

pub node-words : (xs : List Node) (fields : List Field) → Narrow (flat_map node_fields xs ++ fields) → AllByRecursion Word (flat_map node_words xs)
node-words [] fields p = tt
node-words (x ∷ xs) fields p = (p.0, (p.1.0, (p.1.1.0, (p.1.1.1.0, (p.1.1.1.1.0, (p.1.1.1.1.1.0, node-words xs fields p.1.1.1.1.1.1))))))
