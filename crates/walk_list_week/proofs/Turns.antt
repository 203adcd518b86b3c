-- The loop of `join_window`: its invariant, and that a turn keeps it. Assumes nothing.
use Rattle.std.specs.Prelude.{Option, Some, None}
use mathlib.Core.Path.{◌≡◌, refl, sym, ◌∙◌, ap}
use mathlib.Core.Bool.{Bool, true, false}
use mathlib.Core.List.{List, [], ◌∷◌}
use Prim.Native.Nat.{ℕ, zero, suc, ◌+◌, ◌*◌, ◌-◌, ◌≤◌, ◌<◌, max}
use native.Mathlib.Omega.{arith}
use lib.Dec.{ltb}
use lib.IntN.{ℤ}
use lib.ListN.{length, get_or}
use Rattle.model.specs.Blocks.{Block, block, merged, merged_from}
use Rattle.laws_blocks.specs.Move.{moves}
use Rattle.laws_blocks.specs.Count672.{most_blocks}
use Rattle.block_pairs.specs.Pairs.{part, pairs}
use Rattle.block_pairs.proofs.Parts.{from_first, from-none}
use Rattle.walk_list_week.specs.Stretched.{on_from, ended, still_open, stored, SmallOpen, Below}
use Rattle.walk_list_week.proofs.Placing.{stored-append, stored-long, stored-none}
use Rattle.walk_list_week.proofs.Joins.{ended-none, ended-first, ended-joins, ended-apart, open_none, open-first, open-joins, open-apart}

-- ---- the blocks that are left

-- of the first n blocks of l those from i on, where l has distances from t
abbrev pub left : ℕ → ℕ → List ℕ → ℕ → List Block
left t n l i = moves t (part i (n - i) l)

pub moved-long : (t a n : ℕ) (l : List ℕ) → length (moves t (part a n l)) ≡ n
unfolding moves part
moved-long t a zero l = refl
moved-long t a (suc n) l = let h = moved-long t (suc a) n l in omega arith

left-all : (t n : ℕ) (l : List ℕ) → moves t (pairs n l) ≡ left t n l 0
left-all t n l = let e : n ≡ n - 0 = omega arith in ap (λ (k : ℕ). moves t (part 0 k l)) e

pub left-next : (t n : ℕ) (l : List ℕ) (i : ℕ) → i < n → (x : Block) → x ≡ block (get_or l (2 * i) 0 + t) (get_or l (2 * i + 1) 0 + t) → left t n l i ≡ x ∷ left t n l (i + 1)
unfolding moves
left-next t n l i h x e = ap (moves t) (from_first i n l h) ∙ ap (λ (y : Block). y ∷ left t n l (i + 1)) (sym e)

pub left-none : (t n : ℕ) (l : List ℕ) (i : ℕ) → i ≤ n → n ≤ i → left t n l i ≡ []
unfolding moves
left-none t n l i h k = let e : i ≡ n = omega arith in rw e (ap (moves t) (from-none n l))

-- ---- the loop

-- what was there at first: c₀ stretches ended, o₀ open if there is one, and the blocks l; now c have ended, o is open if there is one, and `rest` is left
pub record Joining (w : Bool) (l : List Block) (e : List ℤ) (o₀ : Option Block) (c₀ : ℕ) (rest : List Block) (out : List ℤ) (o : Option Block) (c : ℕ) : Type 0 where
  pub last : still_open o rest ≡ still_open o₀ l
  pub count : c + length (ended o rest) ≡ c₀ + length (ended o₀ l)
  pub few : c + length rest ≤ c₀ + most_blocks
  pub small : SmallOpen o
  pub below : Below rest
  pub room : w ≡ true → 4 * (c + length (ended o rest)) ≤ length out
  pub long : length out ≡ length e
  pub same : stored w c (ended o rest) out ≡ stored w c₀ (ended o₀ l) e

pub joining-starts : (w : Bool) (t n : ℕ) (p : List ℕ) (e : List ℤ) (o₀ : Option Block) (c₀ : ℕ) → length (moves t (pairs n p)) ≤ most_blocks → SmallOpen o₀ → Below (moves t (pairs n p))
    → (w ≡ true → 4 * (c₀ + length (ended o₀ (moves t (pairs n p)))) ≤ length e) → Joining w (moves t (pairs n p)) e o₀ c₀ (left t n p 0) e o₀ c₀
joining-starts w t n p e o₀ c₀ h s m r =
    rw (← left-all t n p) (record { last = refl; count = refl; few = omega arith; small = s; below = m; room = r; long = refl; same = refl })

module _ (w : Bool) (l : List Block) (e : List ℤ) (o₀ : Option Block) (c₀ : ℕ) (rest : List Block) (out : List ℤ) (c : ℕ) (x : Block) (r : List Block) (q : rest ≡ x ∷ r) where
  first : Joining w l e o₀ c₀ (x ∷ r) out None c → Joining w l e o₀ c₀ r out (Some x) c
  first m =
      let p = ended-first x r in
      record {
        last = sym (open-first x r) ∙ m.last;
        count = rw p at m.count;
        few = let u = m.few in omega arith;
        small = m.below.0;
        below = m.below.1;
        room = λ v. rw p at (m.room v);
        long = m.long;
        same = rw p at m.same;
      }

  joins : (b : Block) → Joining w l e o₀ c₀ (x ∷ r) out (Some b) c → ltb b.end x.start ≡ false → Joining w l e o₀ c₀ r out (Some (block b.start (max b.end x.end))) c
  joins b m t =
      let p = ended-joins b x r t in
      let u = m.small in
      let v = m.below.0 in
      record {
        last = sym (open-joins b x r t) ∙ m.last;
        count = rw p at m.count;
        few = let u = m.few in omega arith;
        small = (u.0, let y = u.1 in let z = v.1 in omega arith);
        below = m.below.1;
        room = λ v. rw p at (m.room v);
        long = m.long;
        same = rw p at m.same;
      }

  apart : (b : Block) → Joining w l e o₀ c₀ (x ∷ r) out (Some b) c → ltb b.end x.start ≡ true → Joining w l e o₀ c₀ r (stored w c (b ∷ []) out) (Some x) (c + 1)
  apart b m t =
      let p = ended-apart b x r t in
      let f : w ≡ true → 4 * (c + suc (length (ended (Some x) r))) ≤ length out = λ v. rw p at (m.room v) in
      let g : length (stored w c (b ∷ []) out) ≡ length out = stored-long w c (b ∷ []) out (λ v. let h = f v in omega arith) in
      let a : c + suc (length (ended (Some x) r)) ≡ c₀ + length (ended o₀ l) = rw p at m.count in
      record {
        last = sym (open-apart b x r t) ∙ m.last;
        count = omega arith;
        few = let u = m.few in omega arith;
        small = m.below.0;
        below = m.below.1;
        room = λ v. let h = f v in omega arith;
        long = g ∙ m.long;
        same = stored-append w c (b ∷ []) (ended (Some x) r) out (λ v. let h = f v in omega arith) ∙ (rw p at m.same);
      }

  -- the same as a turn has them
  pub joining-first : (o : Option Block) → Joining w l e o₀ c₀ rest out o c → o ≡ None → Joining w l e o₀ c₀ r out (Some x) c
  joining-first o m f = first (rw (q, f) at m)

  pub joining-on : (o : Option Block) (b : Block) → Joining w l e o₀ c₀ rest out o c → o ≡ Some b → {t : Bool} → t ≡ ltb b.end x.start → t ≡ false
      → (d : Block) → d ≡ block b.start (max b.end x.end) → Joining w l e o₀ c₀ r out (Some d) c
  joining-on o b m f u v d g = rw g (joins b (rw (q, f) at m) (sym u ∙ v))

  pub joining-apart : (o : Option Block) (b : Block) → Joining w l e o₀ c₀ rest out o c → o ≡ Some b → {t : Bool} → t ≡ ltb b.end x.start → t ≡ true
      → (z : List ℤ) → z ≡ stored w c (b ∷ []) out → Joining w l e o₀ c₀ r z (Some x) (c + 1)
  joining-apart o b m f u v z g = rw g (apart b (rw (q, f) at m) (sym u ∙ v))

  -- there is room for the stretch that ends
  pub joining-room : (o : Option Block) (b : Block) → Joining w l e o₀ c₀ rest out o c → o ≡ Some b → {t : Bool} → t ≡ ltb b.end x.start → t ≡ true → w ≡ true → 4 * c + 4 ≤ length out
  joining-room o b m f u v y = let h : 4 * (c + suc (length (ended (Some x) r))) ≤ length out = rw (ended-apart b x r (sym u ∙ v)) at ((rw (q, f) at m).room y) in omega arith

-- all blocks have been seen
module _ (w : Bool) (l : List Block) (e : List ℤ) (o₀ : Option Block) (c₀ : ℕ) (rest : List Block) (out : List ℤ) (o : Option Block) (c : ℕ) (m : Joining w l e o₀ c₀ rest out o c) (q : rest ≡ []) where
  pub joined-last : o ≡ still_open o₀ l
  joined-last = sym (open_none o) ∙ (rw q at m.last)

  pub joined-count : c ≡ c₀ + length (ended o₀ l)
  joined-count = let h : c + length (ended o []) ≡ c₀ + length (ended o₀ l) = rw q at m.count in let p : c + 0 ≡ c₀ + length (ended o₀ l) = rw (ended-none o) at h in omega arith

  pub joined_same : out ≡ stored w c₀ (ended o₀ l) e
  joined_same =
      let h : stored w c (ended o []) out ≡ stored w c₀ (ended o₀ l) e = rw q at m.same in
      let p : stored w c [] out ≡ stored w c₀ (ended o₀ l) e = rw (ended-none o) at h in
      sym (stored-none w c out) ∙ p

-- ---- the end of all blocks

pub none_open : (w : Bool) (o : Option Block) (c : ℕ) (e : List ℤ) → o ≡ None → (c ≡ c + length (on_from o [])) × (e ≡ stored w c (on_from o []) e)
unfolding on_from merged
none_open w o c e h = rw h (omega arith, sym (stored-none w c e))

pub one-room : (w : Bool) (o : Option Block) (b : Block) (c n : ℕ) → o ≡ Some b → (w ≡ true → 4 * (c + length (on_from o [])) ≤ n) → w ≡ true → 4 * c + 4 ≤ n
unfolding on_from merged_from
one-room w o b c n h r v = let p : 4 * (c + 1) ≤ n = rw h at (r v) in omega arith

pub one-open : (w : Bool) (o : Option Block) (b : Block) (c : ℕ) (e : List ℤ) {z : List ℤ} → o ≡ Some b → z ≡ stored w c (b ∷ []) e → (c + 1 ≡ c + length (on_from o [])) × (z ≡ stored w c (on_from o []) e)
unfolding on_from merged_from
one-open w o b c e h p = rw h (refl, p)
