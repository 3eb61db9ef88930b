-- The table of kinds: marks, and children in their order.
use Rattle.std.specs.Prelude.{ℕ, Bool, true, false, cond, not, ◌&&◌, ◌||◌, ◌==◌, nat_le, nat_lt}
use Rattle.syntax.specs.declared.kind.SyntaxKind.{SyntaxKind}
use Rattle.syntax.specs.declared.kind.SyntaxKind.TheVariants.{File, Struct, Fn, TypeAlias, Static, Module, Trait, Impl, Use, ExternCrate, MacroCall, MacroDef, ExternBlock, AsmExpr, Vis, Path, Segment, UseTree, Rename, Field, Attr}
use Rattle.syntax.specs.Kinds.{number_of, is_item}

-- a number is that of the kind k
abbrev pub is : SyntaxKind → ℕ → Bool
is k n = n == number_of k

-- the kind exists and has the mark: 0 where nothing else is said
abbrev pub mark_fits : ℕ → ℕ → Bool
mark_fits k mark =
    cond (is Struct k) (nat_le mark 2)
    (cond (is Module k || (is Impl k || is Path k)) (nat_le mark 1)
    (cond (is MacroCall k || (is Vis k || (is Segment k || is Attr k))) (nat_le mark 4)
    (cond (is UseTree k) (nat_le mark 2 || (mark == 5 || mark == 6))
    (cond (is File k || (is_item k || (is Rename k || is Field k))) (mark == 0) false))))

-- the marks of a use tree that is a group
abbrev pub is_group : ℕ → Bool
is_group mark = mark == 2 || mark == 6

-- items from Struct to Trait, and Use, ExternCrate, MacroDef and Field
abbrev pub takes_vis : ℕ → Bool
takes_vis k = (nat_le (number_of Struct) k && nat_le k (number_of Trait)) || (is Use k || (is ExternCrate k || (is MacroDef k || is Field k)))

-- a Vis has one with mark 4 only, a UseTree none after a bare `::`
abbrev pub takes_path : ℕ → ℕ → Bool
takes_path k mark = is MacroCall k || (is Attr k || ((is Vis k && mark == 4) || (is UseTree k && nat_lt mark 5)))

-- a file, an inline module, and an extern block for some kinds
abbrev pub takes_item : ℕ → ℕ → ℕ → Bool
takes_item k mark item = is File k || ((is Module k && mark == 0) || (is ExternBlock k && (is Fn item || (is TypeAlias item || (is Static item || is MacroCall item)))))

-- a node of kind k has children of kind c
abbrev pub takes : ℕ → ℕ → ℕ → Bool
takes k mark c =
    cond (is Attr c) (nat_le k (number_of AsmExpr))
    (cond (is Vis c) (takes_vis k)
    (cond (is Path c) (takes_path k mark)
    (cond (is Rename c) (is ExternCrate k || (is UseTree k && not (is_group mark)))
    (cond (is UseTree c) (is Use k || (is UseTree k && is_group mark))
    (cond (is Segment c) (is Path k)
    (cond (is Field c) (is Struct k && mark == 2)
    (cond (is_item c) (takes_item k mark c) false)))))))

-- the order of children: attributes, a visibility, a path, a rename, and the others
abbrev pub place_of : ℕ → ℕ
place_of c = cond (is Attr c) 0 (cond (is Vis c) 1 (cond (is Path c) 2 (cond (is Rename c) 3 4)))

-- at most one child of kind c
abbrev pub single : ℕ → ℕ → Bool
single k c = is Vis c || (is Path c || (is Rename c || (is UseTree c && is Use k)))

-- a path has 1 to 64 segments, and a visibility with mark 4 has its path
abbrev pub count_fits : ℕ → ℕ → ℕ → Bool
count_fits k mark count = cond (is Path k) (nat_le 1 count && nat_le count 64) (cond (is Vis k) (not (mark == 4) || count == 1) true)
