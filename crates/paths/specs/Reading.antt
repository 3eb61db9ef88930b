-- The path that a Path node spells.
use Rattle.std.specs.Prelude.{◌≡◌, ℕ, ◌+◌, Bool, true, false, cond, List, [], ◌∷◌, ◌++◌, Some, None, Option, ◌==◌}
use Rattle.std.specs.Option.{option_map}
use Rattle.syntax.specs.Children.{children}
use Rattle.syntax.specs.Meaning.{Meaning}
use Rattle.syntax.specs.declared.node.Node.{Node}
use Rattle.syntax.specs.declared.walk.NodeRef.{NodeRef}
use Rattle.paths.specs.Names.{name_of, names_of}
use Rattle.paths.specs.Spelling.{Path, Segment, name, nameless, self', super', crate', dollar_crate}
use Rattle.paths.specs.declared.mod_path.ModPath.{ModPath}
use Rattle.paths.specs.declared.mod_path.PathKind.{PathKind}
use Rattle.paths.specs.declared.mod_path.PathKind.TheVariants.{Plain, Super, Crate, Abs, DollarCrate}
use Rattle.paths.specs.declared.mod_path.read.SegmentKind.{SegmentKind}
use Rattle.paths.specs.declared.mod_path.read.SegmentKind.TheVariants.{Name as NameSegment, SelfWord, Super as SuperWord, Crate as CrateWord, DollarCrate as DollarWord}
use Rattle.paths.specs.declared.name.Name.{Name}

-- all segments are names
abbrev pub names_in : List Segment → Option (List Name)
names_in [] = Some []
names_in (name n ∷ later) = option_map (λ ns. n ∷ ns) (names_in later)
names_in (nameless ∷ later) = None
names_in (self' ∷ later) = None
names_in (super' ∷ later) = None
names_in (crate' ∷ later) = None
names_in (dollar_crate ∷ later) = None

abbrev pub with_names : PathKind → List Segment → Option Path
with_names kind segments = option_map (λ ns. record { kind = kind; names = ns }) (names_in segments)

-- a path goes on with names
abbrev pub with_more : Path → List Segment → Option Path
with_more p segments = option_map (λ ns. record { kind = p.kind; names = p.names ++ ns }) (names_in segments)

-- after `self` and n times `super`
abbrev pub after_supers : ℕ → List Segment → Option Path
after_supers n (super' ∷ later) = after_supers (n + 1) later
after_supers n [] = with_names (Super n) []
after_supers n (name x ∷ later) = with_names (Super n) (name x ∷ later)
after_supers n (nameless ∷ later) = None
after_supers n (self' ∷ later) = None
after_supers n (crate' ∷ later) = None
after_supers n (dollar_crate ∷ later) = None

-- the path that segments spell, after a leading `::` or not
abbrev pub read_as : Bool → List Segment → Option Path
read_as leading [] = None
read_as true (x ∷ later) = with_names Abs (x ∷ later)
read_as false (name n ∷ later) = with_names Plain (name n ∷ later)
read_as false (nameless ∷ later) = None
read_as false (self' ∷ later) = after_supers 0 later
read_as false (super' ∷ later) = after_supers 1 later
read_as false (crate' ∷ later) = with_names Crate later
read_as false (dollar_crate ∷ later) = with_names DollarCrate later

abbrev pub named : Option Name → Segment
named None = nameless
named (Some n) = name n

-- a Segment node, by its mark
abbrev pub segment_of : Node → Segment
segment_of x =
    cond (x.mark == 0) (named (name_of x.text))
    (cond (x.mark == 1) self' (cond (x.mark == 2) super' (cond (x.mark == 3) crate' dollar_crate)))

-- a segment of that kind, with that name if it has one
abbrev pub written : SegmentKind → Option Name → Segment
written NameSegment n = named n
written SelfWord n = self'
written SuperWord n = super'
written CrateWord n = crate'
written DollarWord n = dollar_crate

-- the kind of a Segment node
abbrev pub Marks : Node → SegmentKind → Type 0
Marks x kind = segment_of x ≡ written kind (name_of x.text)

-- the name of a segment that is one
abbrev pub name_in : Segment → Option Name
name_in (name n) = Some n
name_in nameless = None
name_in self' = None
name_in super' = None
name_in crate' = None
name_in dollar_crate = None

abbrev pub segments_of : List NodeRef → List Segment
segments_of [] = []
segments_of (x ∷ later) = segment_of x.node ∷ segments_of later

-- the path of a Path node, unless it is unreadable
abbrev pub path_of : Meaning → NodeRef → Option Path
path_of m x = read_as (x.node.mark == 1) (segments_of (children m x))

-- what a path as it is read means
abbrev pub meant : ModPath → Path
meant p = record { kind = p.kind; names = names_of p }
