-- The bytes of a name: what the model spans are those from the front on that pass, and no more than there are. And the end of the text.
use mathlib.Core.Path.{◌≡◌, refl}
use mathlib.Core.Bool.{Bool, true, false, cond}
use mathlib.Core.Option.{some}
use mathlib.Core.List.{List, [], ◌∷◌}
use Prim.Native.Nat.{ℕ, suc, ◌+◌, ◌≤◌, ◌<◌, max}
use native.Mathlib.Omega.{arith}
use lib.ListN.{length, drop}
use Rattle.std.specs.Prelude.{if◌then◌else◌}
use Rattle.std.specs.List.{prefix_len}
use Rattle.std.proofs.lemmas.List.{drop_all, drop_more, length-drop}
use Rattle.std.proofs.lemmas.List.Sums.{prefix_len-le-length}
use Rattle.model.specs.Footer.{spanned, at_end, has, byte}
use Rattle.zone_footer_numbers.specs.Numbered.{mark_in, skip_in}
use Rattle.std.proofs.Common as std

pub spanned-prefix : (t : ℕ → Bool) (s : List ℕ) → spanned t s ≡ (prefix_len t s, drop (prefix_len t s) s)
unfolding spanned
spanned-prefix t [] = refl
spanned-prefix t (b ∷ s) = rw (spanned-prefix t s) (go (t b))
  where
    go : (v : Bool) → ◌≡◌ {A = ℕ × List ℕ} (if v then (suc (prefix_len t s), drop (prefix_len t s) s) else (0, b ∷ s)) (cond v (1 + prefix_len t s) 0, drop (cond v (1 + prefix_len t s) 0) (b ∷ s))
    go true = let e : 1 + prefix_len t s ≡ suc (prefix_len t s) = omega arith in rw e
    go false = refl

pub within : (t : ℕ → Bool) (s : List ℕ) (at : ℕ) → at + prefix_len t (drop at s) ≤ max at (length s)
within t s at = omega (arith, prefix_len-le-length t (drop at s), length-drop at s)

pub at-end : (s : List ℕ) (at : ℕ) → length s ≤ at → at_end (drop at s) ≡ some (true, drop at s)
at-end s at h = rw (drop_all at s h)

pub not-at-end : (s : List ℕ) (at : ℕ) → at < length s → at_end (drop at s) ≡ some (false, drop at s)
not-at-end s at h = rw (drop_more s at 0 h)

pub ruleset ends = (at-end, not-at-end)

-- a text that must be there, by whether it is
pub must_be : (s : List ℕ) (at b : ℕ) (r : std.Option ℕ) → mark_in s at r ≡ has b (drop at s) → skip_in s r ≡ byte b (drop at s)
must_be s at b (std.Some a) e = rw (← e)
must_be s at b std.None e = rw (← e)
