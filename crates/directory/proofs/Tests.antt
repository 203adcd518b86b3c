-- What the tests of src/lib.rt answer: one step of the loop over the entries and its end, and each end of `dir_ok`.
use mathlib.Core.Path.{◌≡◌}
use mathlib.Core.List.{List}
use mathlib.Core.Bool.{Bool, true, false, ◌&&◌}
use Prim.Native.Nat.{ℕ, suc, ◌+◌, ◌*◌, ◌-◌, ◌≤◌, ◌<◌}
use native.Mathlib.Omega.{arith}
use borrow.Author.Tests.{le-leb, lt-leb}
use lib.ListN.{length}
use Rattle.model.specs.Directory.{parts_of}
use Rattle.big_endian.specs.Maybe.{is_some}
use Rattle.directory.specs.Directory.{entry_count, start_at, len_at, record_ok, entries_ok, dir_ok}
use Rattle.directory.proofs.Parts.{as-dir}

-- ---- the directory's entries

entries-more : (p : List ℕ) (lo i n : ℕ) → i < n →
    entries_ok p lo i (n - i) ≡ (record_ok p lo (start_at p i) (len_at p i) && entries_ok p (start_at p i + len_at p i) (i + 1) (n - (i + 1)))
unfolding entries_ok
entries-more p lo i n h =
    let e : n - i ≡ suc (n - (i + 1)) = omega arith in
    rw e

pub entries-end : (p : List ℕ) (lo : ℕ) {i n : ℕ} {d : Bool} → n ≤ i → entries_ok p lo i (n - i) ≡ d → true ≡ d
unfolding entries_ok
entries-end p lo {i} {n} h inv =
    let e : n - i ≡ 0 = omega arith in
    (rw e at inv)

module _ (p : List ℕ) (lo : ℕ) {i n s l : ℕ} {r d : Bool} (h : i < n) (inv : entries_ok p lo i (n - i) ≡ d) (es : s ≡ start_at p i) (el : l ≡ len_at p i) (er : r ≡ record_ok p lo s l) where
  pub entries-no : r ≡ false → false ≡ d
  entries-no q = cc (entries-more p lo i n h)

  pub entries-yes : r ≡ true → entries_ok p (s + l) (i + 1) (n - (i + 1)) ≡ d
  entries-yes q = cc (entries-more p lo i n h)

-- ---- the directory: too short for a count; too short for its entries; else by its entries

pub dir-short : (s : List ℕ) → length s < 4 → false ≡ is_some (parts_of s)
unfolding dir_ok
dir-short s h = as-dir s (rw (lt-leb 4 (length s) h))

module _ (s : List ℕ) {n : ℕ} (h : 4 ≤ length s) (e : n ≡ entry_count s) where
  pub dir-cut : length s < 4 + 8 * n → false ≡ is_some (parts_of s)
  unfolding dir_ok
  dir-cut k = as-dir s (rw (← e, le-leb 4 (length s) h, lt-leb (4 + 8 * n) (length s) k))

  pub dir-rest : {r : Bool} → 4 + 8 * n ≤ length s → r ≡ entries_ok s (4 + 8 * n) 0 n → r ≡ is_some (parts_of s)
  unfolding dir_ok
  dir-rest k q = as-dir s (rw (← e, le-leb 4 (length s) h, le-leb (4 + 8 * n) (length s) k) q)
