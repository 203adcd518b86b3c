-- Reading on in a piece of the input, byte by byte.
use mathlib.Core.Path.{◌≡◌, sym, ap, ◌∙◌}
use mathlib.Core.List.{List, [], ◌∷◌, ◌++◌, append_assoc}
use Prim.Native.Nat.{ℕ, zero, suc, ◌+◌, ◌≤◌, ◌<◌}
use native.Mathlib.Omega.{arith}
use native.Mathlib.Numerals.{add-one}
use lib.ListN.{length, get_or, drop}
use lib.Seq.{drop-cons}
use Rattle.model.specs.Answer.{Answer}
use Rattle.model.specs.Working.{Schedule}
use Rattle.query_line.specs.Reading.{Bytes}
use Rattle.answer_line.specs.Placed.{longest, Placed}
use Rattle.answer_line.proofs.Placing.{placed-more}
use Rattle.query_stream.specs.Streaming.{to_come, Turned}
use Rattle.query_stream.specs.declared.Progress.{Progress}
use Rattle.model.specs.Bytes.{newline}

-- ---- bytes

pub bytes-at : (s : List ℕ) → ((k : ℕ) → get_or s k 0 < 256) → Bytes s
bytes-at [] h = tt
bytes-at (c ∷ s) h = (h 0, bytes-at s (λ k. h (suc k)))

bytes_drop : (n : ℕ) (s : List ℕ) → Bytes s → Bytes (drop n s)
bytes_drop zero s h = h
bytes_drop (suc n) [] h = tt
bytes_drop (suc n) (c ∷ s) h = bytes_drop n s h.1

bytes-join : (s t : List ℕ) → Bytes s → Bytes t → Bytes (s ++ t)
bytes-join [] t h g = g
bytes-join (c ∷ s) t h g = (h.0, bytes-join s t h.1 g)

-- ---- the loop

-- p has become r, which is about to read byte i
pub record Going (a : Answer Schedule) (input old new : List ℕ) (p r : Progress) (i : ℕ) : Type 0 where
  pub text : List ℕ
  pub placed : Placed old new p.used r.used text
  pub same : (t : List ℕ) → Bytes t → text ++ to_come a r (drop i input ++ t) ≡ to_come a p (drop p.next input ++ t)
  pub here : r.next ≡ i
  pub used : r.used ≤ length old
  pub kept : length new ≡ length old
  pub next : i ≤ length input
  pub since : p.next ≤ i
  pub first : i ≡ p.next → r.used ≡ p.used

module _ (a : Answer Schedule) (input old : List ℕ) (p : Progress) where
  pub going_on_lem : (new last : List ℕ) (r q : Progress) (i : ℕ) → p.used ≤ length old → Bytes input → i < length input → r.used + longest ≤ length old →
      Going a input old new p r i → Turned a new last r (get_or input i 0) q → length last ≡ length new → Going a input old last p q (i + 1)
  going_on_lem new last r q i from b h room g u l =
      record {
        text = g.text ++ u.text;
        placed = placed-more old new last p.used r.used q.used g.text u.text from g.placed u.placed;
        same =
            λ t k.
            let d : get_or input i 0 ∷ (drop (i + 1) input ++ t) ≡ drop i input ++ t =
            ap (λ n. get_or input i 0 ∷ (drop n input ++ t)) (add-one i) ∙ ap (λ s. s ++ t) (sym (drop-cons input i 0 h)) in
            append_assoc g.text u.text (to_come a q (drop (i + 1) input ++ t))
            ∙ ap (λ s. g.text ++ s) (u.same (drop (i + 1) input ++ t) (bytes-join (drop (i + 1) input) t (bytes_drop (i + 1) input b) k) ∙ ap (to_come a r) d) ∙ g.same t k;
        here = omega (arith, u.next, g.here);
        used = omega (arith, u.used, room);
        kept = l ∙ g.kept;
        next = omega arith;
        since = omega (arith, g.since);
        first = λ e. absurd (omega (arith, g.since));
      }

  -- the byte is a newline
  pub going-line : (new last : List ℕ) (r q : Progress) (i : ℕ) → p.used ≤ length old → Bytes input → i < length input → r.used + longest ≤ length old →
      Going a input old new p r i → get_or input i 0 ≡ newline → Turned a new last r newline q → length last ≡ length new → Going a input old last p q (i + 1)
  going-line new last r q i from b h room g e u l = going_on_lem new last r q i from b h room g (rw e u) l
