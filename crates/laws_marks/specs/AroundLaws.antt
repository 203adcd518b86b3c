-- What blocks show around an instant, block by block: so the code goes through a list once.
use Rattle.std.specs.Prelude.{◌≡◌, refl, Bool, true, false, ◌||◌, List, [], ◌∷◌, ◌++◌, ℕ, max}
use Rattle.std.proofs.Common.{sym, ◌∙◌, ap, arith}
use Rattle.model.specs.Basic.{any}
use Rattle.model.specs.Marks.{MarkedBlock}
use Rattle.laws_base.specs.Test.{by-test}
use Rattle.laws_marks.specs.Around.{Around, around_of, holds_at, holds_before, starts_with, ends_with, covered_at, covered_before, best_start, best_end}

-- what one block shows around u
abbrev pub around_block : ℕ → MarkedBlock → Around
around_block u b = record { before = holds_before u b; here = holds_at u b; starts = starts_with u b; ends = ends_with u b }

-- what two lists show together
abbrev pub both_around : Around → Around → Around
both_around a b = record { before = a.before || b.before; here = a.here || b.here; starts = max a.starts b.starts; ends = max a.ends b.ends }

-- equal parts make equal wholes
pub same-around : (a b : Around) → a.before ≡ b.before → a.here ≡ b.here → a.starts ≡ b.starts → a.ends ≡ b.ends → a ≡ b
same-around a b p q r s = λ i. record { before = p i; here = q i; starts = r i; ends = s i }

-- one block before others
any-more : (t : MarkedBlock → Bool) (b : MarkedBlock) (l : List MarkedBlock) → any t (b ∷ l) ≡ (t b || any t l)
unfolding any
any-more t b l = by-test (t b) (λ e. rw e) (λ e. rw e)

pub around-more : (u : ℕ) (b : MarkedBlock) (l : List MarkedBlock) → around_of u (b ∷ l) ≡ both_around (around_block u b) (around_of u l)
unfolding covered_at covered_before best_start best_end
around-more u b l = same-around _ _ (any-more (holds_before u) b l) (any-more (holds_at u) b l) refl refl

-- in any grouping
or-group : (a b c : Bool) → ((a || b) || c) ≡ (a || (b || c))
or-group true b c = refl
or-group false b c = refl

max-group : (a b c : ℕ) → max (max a b) c ≡ max a (max b c)
max-group a b c = omega arith

pub around-group : (a b c : Around) → both_around (both_around a b) c ≡ both_around a (both_around b c)
around-group a b c =
    same-around _ _ (or-group a.before b.before c.before) (or-group a.here b.here c.here) (max-group a.starts b.starts c.starts) (max-group a.ends b.ends c.ends)

-- no block shows nothing
or-false : (a : Bool) → (a || false) ≡ a
or-false true = refl
or-false false = refl

pub none-behind : (u : ℕ) (a : Around) → both_around a (around_of u []) ≡ a
unfolding covered_at covered_before best_start best_end any
none-behind u a = same-around _ _ (or-false a.before) (or-false a.here) (omega arith) (omega arith)

pub none_before : (u : ℕ) (a : Around) → both_around (around_of u []) a ≡ a
unfolding covered_at covered_before best_start best_end any
none_before u a = same-around _ _ refl refl (omega arith) (omega arith)

-- two lists
pub around-lists : (u : ℕ) (l k : List MarkedBlock) → around_of u (l ++ k) ≡ both_around (around_of u l) (around_of u k)
around-lists u [] k = sym (none_before u (around_of u k))
around-lists u (b ∷ l) k =
    around-more u b (l ++ k) ∙ ap (both_around (around_block u b)) (around-lists u l k) ∙ sym (around-group (around_block u b) (around_of u l) (around_of u k))
    ∙ ap (λ (a : Around). both_around a (around_of u k)) (sym (around-more u b l))
