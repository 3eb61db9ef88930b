-- The law of a syntax source.
use Rattle.std.specs.Prelude.{ℕ, zero, suc, ◌+◌, Bool, true, false, cond, not, ◌&&◌, ◌||◌, List, [], ◌∷◌, length, ◌==◌, nat_le}
use Rattle.std.specs.Str.{bytes_eq}
use Rattle.syntax.specs.Meaning.{Meaning}
use Rattle.syntax.specs.declared.node.Node.{Node}
use Rattle.syntax.specs.declared.kind.SyntaxKind.TheVariants.{File}
use Rattle.syntax.specs.Table.{is, mark_fits, takes, place_of, single, count_fits}
use Rattle.syntax.specs.Trees.{Siblings, none, node, size, siblings}

-- a node by itself, where there are so many texts
unfoldable pub sound : ℕ → Node → Bool
sound texts x = mark_fits x.kind x.mark && (nat_le x.text texts && nat_le x.from x.to)

-- x is sound, and `parent` has such a child, at the place `least` or later
unfoldable pub is_child : ℕ → Node → ℕ → Node → Bool
is_child texts parent least x = sound texts x && (takes parent.kind parent.mark x.kind && nat_le least (place_of x.kind))

-- the least place of what comes after x
unfoldable pub place_after : Node → Node → ℕ
place_after parent x = cond (single parent.kind x.kind) (place_of x.kind + 1) (place_of x.kind)

-- siblings from number i on are the children of `parent` after `count` others, with so many levels left
abbrev pub are_children : ℕ → Node → ℕ → ℕ → ℕ → ℕ → Siblings → Bool
are_children texts parent least count levels i none = count_fits parent.kind parent.mark count
are_children texts parent least count zero i (node x children later) = false
are_children texts parent least count (suc levels) i (node x children later) =
    (x.end == i + 1 + size children) && (is_child texts parent least x && (are_children texts x 0 0 levels (i + 1) children && are_children texts parent (place_after parent x) (count + 1) (suc levels) x.end later))

-- one root, of kind File, and 40 levels below it
abbrev pub is_file : ℕ → Siblings → Bool
is_file texts none = false
is_file texts (node x children none) = is File x.kind && (x.end == 1 + size children && (sound texts x && are_children texts x 0 0 40 1 children))
is_file texts (node x children (node y more later)) = false

unfoldable pub lawful_nodes : ℕ → List Node → Bool
lawful_nodes texts xs = is_file texts (siblings 0 xs)

-- t is one of the texts
abbrev pub among : List ℕ → List (List ℕ) → Bool
among t [] = false
among t (u ∷ us) = bytes_eq t u || among t us

-- t has 1 to 255 bytes, and is none of the later texts
unfoldable pub is_text : List ℕ → List (List ℕ) → Bool
is_text t later = nat_le 1 (length t) && (nat_le (length t) 255 && not (among t later))

abbrev pub lawful_texts : List (List ℕ) → Bool
lawful_texts [] = true
lawful_texts (t ∷ later) = is_text t later && lawful_texts later

-- 1 to 4096 nodes, and at most 1024 texts
unfoldable pub lawful : Meaning → Bool
lawful m = nat_le 1 (length m.nodes) && (nat_le (length m.nodes) 4096 && (nat_le (length m.texts) 1024 && (lawful_texts m.texts && lawful_nodes (length m.texts) m.nodes)))
