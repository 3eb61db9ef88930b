-- Paths that are found equal are equal.
use Rattle.std.proofs.Common.{◌≡◌, ℕ, zero, suc, true, List, [], ◌∷◌, sym, refl, ap, ◌∙◌, ◌+◌, arith}
use Rattle.std.proofs.lemmas.Bool.{eqb-true, and_parts, false≢true}
use Rattle.paths.specs.Spelling.{Path}
use Rattle.paths.specs.declared.mod_path.PathKind.{PathKind}
use Rattle.paths.specs.declared.mod_path.PathKind.TheVariants.{Plain, Super, Crate, Abs, DollarCrate}
use Rattle.paths.specs.declared.name.Name.{Name}
use Rattle.paths.specs.declared.name.Name.TheVariants.{Text, Missing}
use Rattle.rules.specs.Equality.{same_name, same_names, kind_number, same_path}

name-same : (a b : Name) → same_name a b ≡ true → a ≡ b
name-same (Text a) (Text b) e = ap Text (eqb-true a b e)
name-same (Text a) Missing e = absurd (false≢true e)
name-same Missing (Text b) e = absurd (false≢true e)
name-same Missing Missing e = refl

names_same : (xs ys : List Name) → same_names xs ys ≡ true → xs ≡ ys
names_same [] [] e = refl
names_same [] (y ∷ ys) e = absurd (false≢true e)
names_same (x ∷ xs) [] e = absurd (false≢true e)
names_same (x ∷ xs) (y ∷ ys) e =
    let h = and_parts _ _ e in
    let f = name-same x y h.0 in
    let g = names_same xs ys h.1 in
    cc

-- the kind of a number
abbrev numbered_kind : ℕ → PathKind
numbered_kind zero = Plain
numbered_kind (suc zero) = Abs
numbered_kind (suc (suc zero)) = Crate
numbered_kind (suc (suc (suc zero))) = DollarCrate
numbered_kind (suc (suc (suc (suc n)))) = Super n

kind-numbered : (kind : PathKind) → numbered_kind (kind_number kind) ≡ kind
kind-numbered Plain = refl
kind-numbered Abs = refl
kind-numbered Crate = refl
kind-numbered DollarCrate = refl
kind-numbered (Super n) = let more : 4 + n ≡ suc (suc (suc (suc n))) = omega arith in ap numbered_kind more

kind-same : (a b : PathKind) → kind_number a ≡ kind_number b → a ≡ b
kind-same a b e = sym (kind-numbered a) ∙ ap numbered_kind e ∙ kind-numbered b

pub path-same : (p q : Path) → same_path p q ≡ true → p ≡ q
path-same p q e =
    let h = and_parts _ _ e in
    let kinds : p.kind ≡ q.kind = kind-same p.kind q.kind (eqb-true _ _ h.0) in
    let names : p.names ≡ q.names = names_same p.names q.names h.1 in
    let first : p ≡ record { kind = q.kind; names = p.names } = ap (λ k. record { kind = k; names = p.names }) kinds in
    let second : record { kind = q.kind; names = p.names } ≡ q = ap (λ ns. record { kind = q.kind; names = ns }) names in
    first ∙ second
