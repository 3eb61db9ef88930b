-- How many paths and names a table of paths holds.
use Rattle.std.proofs.Common.{◌≡◌, ℕ, ◌<◌, ◌≤◌, false, List, length, Ok, Err, Result, IfOk, ap, arith}
use Rattle.syntax.specs.declared.refusal.Refusal.{Refusal}
use Rattle.tables.specs.Insertion.{KeyInserted}
use Rattle.tables.specs.Held.{held}
use Rattle.tables.specs.Sets.{has, place}
use Rattle.tables.proofs.Rows.{length-held-le}
use Rattle.tables.proofs.Sets.{place-below as below}
use Rattle.paths.specs.Alike.{same_path, total, Room}
use Rattle.paths.specs.Kept.{PathRows, marked_paths, marked_paths_in, paths_in}
use Rattle.paths.specs.Parts.{meant_all}
use Rattle.paths.specs.Spelling.{Path}
use Rattle.paths.specs.declared.interned.Paths.{Paths}
use Rattle.paths.proofs.Laid.{length-meant, total_laid}

pub length-paths : (p : Paths) → length (paths_in p) ≡ length (held p.parts)
unfolding paths_in
length-paths p = length-meant _ _

pub total-paths : (p : Paths) → total (paths_in p) ≡ length (held p.segments)
unfolding paths_in
total-paths p = total_laid (held p.parts) (held p.segments) p.laid.0

-- a number that is answered is below 512
pub place-below : (p : Paths) (path : Path) (i : ℕ) → i ≡ place same_path (paths_in p) path → (has same_path (paths_in p) path ≡ false → length (paths_in p) < 512) → i < 512
place-below p path i e room =
    let few : length (paths_in p) ≤ 512 = (let n = length-paths p in let m = length-held-le p.parts in omega arith) in
    below same_path 512 (paths_in p) path i e few room

pub inserted_below : (p : Paths) (path : Path) (r : Result ℕ Refusal) (new : List Path) → KeyInserted same_path (Room (paths_in p) path) (paths_in p) path r new → IfOk r (λ i. i < 512)
inserted_below p path (Ok i) new h = place-below p path i h.1 (λ n. (h.0 n).0)
inserted_below p path (Err e) new h = tt

-- two tables, each the same
pub rows_same : {X Y : Type 0} {a b : X} {c d : Y} → a ≡ b → c ≡ d → ◌≡◌ {A = X × Y} (a, c) (b, d)
rows_same e f = λ i. (e i, f i)

-- the same rows are the same paths
pub marked_rows : (s t : Paths) → marked_paths t ≡ marked_paths s → marked_paths_in t ≡ marked_paths_in s
unfolding marked_paths_in
marked_rows s t e = ap (λ (rows : PathRows). meant_all rows.0 rows.1) e
