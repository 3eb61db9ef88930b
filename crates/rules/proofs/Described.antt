-- Each entry of a run is that of its node, and so is each struct's constructor.
use Rattle.std.proofs.Common.{◌≡◌, ℕ, ◌+◌, ◌≤◌, Bool, true, false, cond, eqb, List, length, Some, None, Option, sym, refl, ap, ◌∙◌, subst, inl, inr, arith}
use Rattle.std.proofs.lemmas.Bool.{cases_Bool, cond_both, eqb-true, false≢true}
use Rattle.std.specs.Option.{option_map}
use Rattle.syntax.proofs.Fronts.{at_in}
use Rattle.syntax.proofs.Rows.{between_alone}
use Rattle.syntax.proofs.Lawfulness.{law-stands}
use Rattle.syntax.specs.Children.{child_of}
use Rattle.syntax.specs.Law.{lawful}
use Rattle.syntax.specs.Meaning.{Meaning, node_at}
use Rattle.syntax.specs.Table.{is}
use Rattle.syntax.specs.Trees.{Siblings, none, node, Fill, between}
use Rattle.syntax.specs.declared.kind.SyntaxKind.TheVariants as kind
use Rattle.syntax.specs.declared.node.Node.{Node}
use Rattle.syntax.specs.declared.walk.NodeRef.{NodeRef}
use Rattle.paths.specs.Names.{name_of}
use Rattle.paths.specs.Reading.{path_of}
use Rattle.paths.specs.declared.name.Name.{Name}
use Rattle.items.specs.Written.{Visibility, visibility_of}
use Rattle.items.specs.declared.records.ExpandTo.{ExpandTo}
use Rattle.rules.proofs.Held.{each_map}
use Rattle.rules.proofs.Local.{split}
use Rattle.rules.proofs.RootItems.{node-here}
use Rattle.rules.proofs.RunSteps.{all-kept}
use Rattle.rules.proofs.Seen.{struct_law}
use Rattle.rules.specs.Consequences.{Described, EntriesStand, SeenAsWritten, StructSeen, ConstructorsHeld}
use Rattle.rules.specs.Constructors.{Constructor, constructor_of}
use Rattle.rules.specs.Entries.{Record, Struct, Union, Enum, Function, TypeAlias, Static, Const, Mod, Trait, Impl, Use, ExternCrate, MacroCall, MacroRules, Macro2, ExternBlock, size_of, used, called, expand_to, mod_kind, record_of, has_items, Entry, Entries, empty, entry, ids, followed}
use Rattle.rules.specs.Holding.{Each}
use Rattle.rules.specs.Inventory.{Counts, plus_one, plus, no_ids, placed, entries_from, alone, below}
use Rattle.rules.specs.Runs.{Call, root, item, Lowered, new, appended, after, lowered}
use Rattle.rules.specs.Uses.{UseTrees, nothing, tree, alias_of, use_tree_of}

each_followed : (P : Entry → Type 0) (es fs : Entries) → Each P es → Each P fs → Each P (followed es fs)
each_followed P empty fs h k = k
each_followed P (entry e inside later) fs h k = (h.0, h.1, each_followed P later fs h.2 k)

module _ (m : Meaning) where
  placed-described : (a : Counts) (x : NodeRef) (inside : Entries) (later : Counts → Entries) (r : Option Record) → node_at m x.number ≡ Some x.node → record_of m x (ids inside) ≡ r
      → Each (Described m) inside → ((n : Counts) → Each (Described m) (later n)) → Each (Described m) (placed m a x inside later r)
  placed-described a x inside later None there is-record f g = g a
  placed-described a x inside later (Some r) there is-record f g =
      (record { node = x.node; there = there; inside = ids inside; as_written = is-record; with_attrs = refl }, f, g (plus_one (size_of r) (plus a inside)))

  entries-described : (t : Siblings) (i end : ℕ) (a : Counts) → end ≤ length m.nodes → t ≡ between m.nodes i end → Fill i end t → Each (Described m) (entries_from m a i t)
  entries-described none i end a in_List same fill = tt
  entries-described (node x children later) i end a in_List same fill =
      let parts = split m.nodes i end x children later in_List same fill in
      let here : NodeRef = record { number = i; node = x } in
      let at_i : node_at m i ≡ Some x = at_in i m.nodes x (omega (arith, fill.0, fill.1)) ∙ ap Some (sym (node-here m.nodes i end x children later in_List same fill)) in
      let inside = cond (has_items x) (entries_from m a (i + 1) children) empty in
      placed-described a here inside (λ n. entries_from m n x.end later) (record_of m here (ids inside)) at_i refl
      (cond_both (has_items x) _ empty (Each (Described m)) (λ _. entries-described children (i + 1) x.end a (omega (arith, fill.1)) parts.0 fill.2) (λ _. tt))
      (λ n. entries-described later x.end end n in_List parts.1 fill.3)

  module _ (law : lawful m ≡ true) where
    -- a node with what is below it fills its part
    alone-fill : (i : ℕ) (x : Node) → node_at m i ≡ Some x → Fill i x.end (between m.nodes i x.end)
    alone-fill i x e =
        let p = (law-stands m law).placed i x e in
        subst (Fill i x.end) (sym (between_alone m i x law e)) (p.above, omega arith, p.fill, refl)

    alone-described : (a : Counts) (i : ℕ) (o : Option Node) → node_at m i ≡ o → Each (Described m) (entries_from m a i (alone m.nodes i o))
    alone-described a i None e = tt
    alone-described a i (Some x) e = entries-described (between m.nodes i x.end) i x.end a ((law-stands m law).placed i x e).below refl (alone-fill i x e)

    below-described : (a : Counts) (o : Option Node) → node_at m 0 ≡ o → Each (Described m) (entries_from m a 1 (below m.nodes o))
    below-described a None e = tt
    below-described a (Some x) e = let p = (law-stands m law).placed 0 x e in entries-described (between m.nodes 1 x.end) 1 x.end a p.below refl p.fill

    after-described : (t : Lowered) (call : Call) → Each (Described m) t.entries → Each (Described m) (after m t call).entries
    after-described t root h = each_followed (Described m) t.entries (appended m t.entries root) h (below-described (plus no_ids t.entries) (node_at m 0) refl)
    after-described t (item n) h = each_followed (Described m) t.entries (appended m t.entries (item n)) h (alone-described (plus no_ids t.entries) n (node_at m n) refl)

pub entries-stand : EntriesStand
entries-stand m law calls = all-kept (λ t. Each (Described m) t.entries) m (λ t call h full. after-described m law t call h) calls new tt

-- only a Struct node has a struct's record
is_struct : Record → Bool
is_struct (Struct n v c) = true
is_struct (Union n v) = false
is_struct (Enum n v) = false
is_struct (Function n v) = false
is_struct (TypeAlias n v) = false
is_struct (Static n v) = false
is_struct (Const n v) = false
is_struct (Mod n v items) = false
is_struct (Trait n v) = false
is_struct (Impl of_trait) = false
is_struct (Use v trees) = false
is_struct (ExternCrate n alias v) = false
is_struct (MacroCall p expand) = false
is_struct (MacroRules n) = false
is_struct (Macro2 n v) = false
is_struct (ExternBlock inside) = false

record Other (o : Option Record) : Type 0 where
  differs : (r : Record) → o ≡ Some r → is_struct r ≡ false

other_none : Other None
other_none = record { differs = λ r e. (let z : ◌≡◌ {A = ℕ} 0 1 = cc in absurd (omega arith)) }

other_some : (r : Record) → is_struct r ≡ false → Other (Some r)
other_some r h = record { differs = λ q e. (let same : r ≡ q = cc in subst (λ s. is_struct s ≡ false) same h) }

other_cond : (b : Bool) (o p : Option Record) → Other o → Other p → Other (cond b o p)
other_cond true o p f g = f
other_cond false o p f g = g

other_mapped : {A : Type 0} (f : A → Record) → ((x : A) → is_struct (f x) ≡ false) → (o : Option A) → Other (option_map f o)
other_mapped f h None = other_none
other_mapped f h (Some x) = other_some (f x) (h x)

other_used : (v : Visibility) (t : UseTrees) → Other (used v t)
unfolding is_struct
other_used v nothing = other_none
other_used v (tree x members later) = other_some (Use v (tree x members later)) refl

other_called : (m : Meaning) (x : ExpandTo) (o : Option NodeRef) → Other (called m x o)
unfolding is_struct
other_called m x None = other_none
other_called m x (Some path) = other_mapped (λ p. MacroCall p x) (λ p. refl) (path_of m path)

struct_of : (m : Meaning) (x : NodeRef) (o : Option Name) (name : Name) (v : Visibility) (c : Constructor) → option_map (λ n. Struct n (visibility_of m x) (constructor_of m x)) o ≡ Some (Struct name v c) → (v ≡ visibility_of m x) × (c ≡ constructor_of m x)
struct_of m x None name v c e = let z : ◌≡◌ {A = ℕ} 0 1 = cc in absurd (omega arith)
struct_of m x (Some n) name v c e = (let f : v ≡ visibility_of m x = cc in f, let g : c ≡ constructor_of m x = cc in g)

-- the records of all other kinds
rest : (m : Meaning) (x : NodeRef) (inside : List ℕ) → is kind.Struct x.node.kind ≡ false → Other (record_of m x inside)
unfolding is_struct
rest m x inside other =
    let k = x.node.kind in
    let name = name_of x.node.text in
    let v = visibility_of m x in
    rw other
    (other_cond (is kind.Union k) _ _ (other_mapped (λ n. Union n v) (λ n. refl) name)
    (other_cond (is kind.Enum k) _ _ (other_mapped (λ n. Enum n v) (λ n. refl) name)
    (other_cond (is kind.Fn k) _ _ (other_mapped (λ n. Function n v) (λ n. refl) name)
    (other_cond (is kind.TypeAlias k) _ _ (other_mapped (λ n. TypeAlias n v) (λ n. refl) name)
    (other_cond (is kind.Static k) _ _ (other_mapped (λ n. Static n v) (λ n. refl) name)
    (other_cond (is kind.Const k) _ _ (other_some (Const name v) refl)
    (other_cond (is kind.Module k) _ _ (other_mapped (λ n. Mod n v (mod_kind x.node.mark inside)) (λ n. refl) name)
    (other_cond (is kind.Trait k) _ _ (other_mapped (λ n. Trait n v) (λ n. refl) name)
    (other_cond (is kind.Impl k) _ _ (other_some (Impl (eqb x.node.mark 1)) refl)
    (other_cond (is kind.Use k) _ _ (other_used v (use_tree_of m x))
    (other_cond (is kind.ExternCrate k) _ _ (other_mapped (λ n. ExternCrate n (alias_of m x) v) (λ n. refl) name)
    (other_cond (is kind.MacroCall k) _ _ (other_called m (expand_to x.node.mark) (child_of kind.Path m x))
    (other_cond (is kind.MacroRules k) _ _ (other_mapped MacroRules (λ n. refl) name)
    (other_cond (is kind.MacroDef k) _ _ (other_mapped (λ n. Macro2 n v) (λ n. refl) name)
    (other_cond (is kind.ExternBlock k) _ _ (other_some (ExternBlock inside) refl) other_none)))))))))))))))

record StructNode (m : Meaning) (x : NodeRef) (v : Visibility) (c : Constructor) : Type 0 where
  is_struct : x.node.kind ≡ 10
  own : v ≡ visibility_of m x
  made : c ≡ constructor_of m x

struct-node : (m : Meaning) (x : NodeRef) (inside : List ℕ) (name : Name) (v : Visibility) (c : Constructor) → record_of m x inside ≡ Some (Struct name v c) → StructNode m x v c
unfolding is_struct
struct-node m x inside name v c e =
    elim (cases_Bool (is kind.Struct x.node.kind)) [
      | inl y ↦
          let k : x.node.kind ≡ 10 = eqb-true x.node.kind 10 y in
          let parts = struct_of m x (name_of x.node.text) name v c (rw y at e) in
          record { is_struct = k; own = parts.0; made = parts.1 }
      | inr n ↦ absurd (false≢true (sym ((rest m x inside n).differs (Struct name v c) e)))
    ]

seen_as_written : (m : Meaning) (x : NodeRef) (v : Visibility) (c : Constructor) → v ≡ visibility_of m x → c ≡ constructor_of m x → SeenAsWritten m x v c
seen_as_written m x v c e f =
    let law : SeenAsWritten m x (visibility_of m x) (constructor_of m x) = struct_law m x in
    subst (λ w. SeenAsWritten m x w c) (sym e) (subst (SeenAsWritten m x (visibility_of m x)) (sym f) law)

entry_seen : (m : Meaning) (e : Entry) → Described m e → (name : Name) (v : Visibility) (c : Constructor) → e.item ≡ Struct name v c → StructSeen m e.ast_id v c
entry_seen m e d name v c h =
    let here : NodeRef = record { number = e.ast_id; node = d.node } in
    let s = struct-node m here d.inside name v c (d.as_written ∙ ap Some h) in
    record { struct = d.node; there = d.there; kind = s.is_struct; own = s.own; seen = seen_as_written m here v c s.own s.made }

pub constructors-held : ConstructorsHeld
constructors-held m law calls = each_map (Described m) _ (entry_seen m) (lowered m new calls).entries (entries-stand m law calls)
