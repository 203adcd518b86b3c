-- The loop of `search_into`: its invariant, and that a turn keeps it. Assumes nothing.
use mathlib.Core.Path.{◌≡◌, refl, sym, ◌∙◌, ap}
use mathlib.Core.Bool.{Bool, true, false, ◌&&◌}
use mathlib.Core.List.{List}
use Prim.Native.Nat.{ℕ, ◌+◌, ◌*◌, ◌-◌, ◌≤◌, ◌<◌, min}
use native.Mathlib.Omega.{arith}
use lib.Dec.{eqb, ltb}
use Rattle.model.specs.Answer.{Answer, gives, refuses}
use Rattle.model.specs.Instant.{week}
use Rattle.model.specs.Blocks.{Block, total}
use Rattle.model.specs.Working.{Schedule}
use Rattle.model.specs.Walk.{Way, at, reach, ahead, search, found, gap, left, search_blocks}
use Rattle.model.specs.Skip.{repeats, needed_search}
use Rattle.laws_skip.specs.WindowEnds.{Inside, search-blocks-left, end-upto}
use Rattle.laws_skip.specs.Skips.{Previous, fresh, known, keep, may_skip, Counted, counted, skip_search, SearchAnswers}
use Rattle.laws_skip.specs.Loops.{search_rest, counted_more, search-start, search-done, search-finds, search-gap, search-left, search-run}
use Rattle.laws_skip.specs.Schedules.{search-skipping}
use Rattle.laws_skip.specs.Books.{BuiltWell}
use Rattle.walk_search_week.proofs.Moved.{search-blocks-rest}

more-more : (c k : ℕ) (r : Counted) → counted_more c (counted_more k r) ≡ counted_more (c + k) r
more-more c k r = let q : c + (k + r.count) ≡ c + k + r.count = omega arith in λ i. record { answer = r.answer; count = q i }

more-nothing : (r : Counted) → counted_more 0 r ≡ r
more-nothing r = let q : 0 + r.count ≡ r.count = omega arith in λ i. record { answer = r.answer; count = q i }

module _ (look : ℕ → ℕ → List Block) (rep : ℕ → Bool) (limit end d : ℕ) where
  -- at the distance x, with `rest` left to find: what is resolved so far, and the search from there, are the whole search
  pub record Searching (x last rest windows idle : ℕ) (k : Previous) : Type 0 where
    pub upto : x ≤ end
    -- work last ended so far before x
    pub since : idle + last ≡ x
    pub near : idle ≤ limit
    pub some : 0 < rest
    pub less : rest ≤ d
    pub few : x < end → windows * week ≤ x
    pub same : counted_more windows (search_rest look rep limit end x last rest k) ≡ search_rest look rep limit end 0 0 d fresh

  pub searching-starts : 0 < d → (k : Previous) → k ≡ fresh → Searching 0 0 d 0 0 k
  searching-starts h k e = record {
    upto = omega arith;
    since = omega arith;
    near = omega arith;
    some = h;
    less = omega arith;
    few = λ u. omega arith;
    same = rw e (more-nothing (search_rest look rep limit end 0 0 d fresh));
  }

  module _ (x last rest windows idle : ℕ) (k : Previous) (m : Searching x last rest windows idle k) where
    -- windows that are skipped
    runs_on : (t n : ℕ) → k ≡ known t idle → 0 < n → x + n * week ≤ end → ((i : ℕ) → i < n → rep (x + i * week) ≡ true) → n * t < rest
        → Searching (x + n * week) (last + n * week) (rest - n * t) windows idle (known t idle)
    runs_on t n f j i r u =
        let o = m.since in let l = m.less in let w = m.few (omega arith) in
        record {
          upto = i;
          since = omega arith;
          near = m.near;
          some = omega arith;
          less = omega arith;
          few = λ z. omega arith;
          same = sym (ap (counted_more windows) (search-run look rep limit end n x last rest t idle m.since i r u)) ∙ (rw f at m.same);
        }

    pub searching-runs : (t n : ℕ) → k ≡ known t idle → 0 < n → x + n * week ≤ end → ((i : ℕ) → i < n → rep (x + i * week) ≡ true) → n * t < rest
        → (x' last' rest' : ℕ) → x' ≡ x + n * week → last' ≡ last + n * week → rest' ≡ rest - n * t
        → (idle' : ℕ) → idle' ≡ x' - last' → (k' : Previous) → k' ≡ known t idle' → Searching x' last' rest' windows idle' k'
    searching-runs t n g j i r u x' last' rest' ex el er idle' ei k' ek =
        let o = m.since in
        let w : idle' ≡ idle = omega arith in
        rw (ek, w, ex, el, er) (runs_on t n g j i r u)

    module _ (h : x < end) (y : ℕ) (e : y ≡ min (x + week) end) where
      -- one that is resolved
      module _ (no-skip : may_skip k rest (eqb (min (x + week) end - x) week && rep x) ≡ false) where
        pub searching-finds : (z : ℕ) → found z ≡ search_blocks limit y last rest (look x y) → counted (gives z) (windows + 1) ≡ search_rest look rep limit end 0 0 d fresh
        searching-finds z f =
            ap (counted_more windows) (sym (search-finds look rep limit end x last rest k h no-skip z (rw e at (sym f)))) ∙ m.same

        pub searching-gap : gap ≡ search_blocks limit y last rest (look x y) → counted (refuses 6 0) (windows + 1) ≡ search_rest look rep limit end 0 0 d fresh
        searching-gap f =
            ap (counted_more windows) (sym (search-gap look rep limit end x last rest k h no-skip (rw e at (sym f)))) ∙ m.same

        pub searching-left : (tidy : Inside x y (look x y)) (r l : ℕ) → left r l ≡ search_blocks limit y last rest (look x y)
            → (k' : Previous) → k' ≡ keep (eqb (y - x) week && ltb 0 (rest - r)) (rest - r) (y - l) → (idle' : ℕ) → idle' ≡ y - l
            → Searching y l r (windows + 1) idle' k'
        searching-left tidy r l f k' g idle' ee =
            let o = m.some in let i = m.less in let n = m.few h in let j = m.upto in let w = m.since in
            let v = search-blocks-left limit x y (look x y) tidy last rest o r l (sym f) in
            let v0 = v.0 in let v1 = v.1 in let v2 = v.2 in
            let z = end-upto x y (look x y) tidy last (omega arith) in
            let t : total (look x y) ≡ rest - r = omega arith in
            record {
              upto = omega arith;
              since = omega arith;
              near = (let q = (search-blocks-rest limit y last rest (look x y) r l (sym f)).1 in omega arith);
              some = omega arith;
              less = omega arith;
              few = λ z. omega arith;
              same = rw g (rw t at (moved e));
            }
          where
            moved : y ≡ min (x + week) end
                → counted_more (windows + 1) (search_rest look rep limit end y l r (keep (eqb (y - x) week && ltb 0 (total (look x y))) (total (look x y)) (y - l))) ≡ search_rest look rep limit end 0 0 d fresh
            moved c =
                let one = search-left look rep limit end x last rest k h no-skip r l (rw c at (sym f)) in
                rw c
                (sym (more-more windows 1
                (search_rest look rep limit end (min (x + week) end) l r
                (keep (eqb (min (x + week) end - x) week && ltb 0 (total (look x (min (x + week) end)))) (total (look x (min (x + week) end))) (min (x + week) end - l))))
                ∙ ap (counted_more windows) (sym one) ∙ m.same)

    pub searching-ends : end ≤ x → counted (refuses 7 0) (windows + 0) ≡ search_rest look rep limit end 0 0 d fresh
    searching-ends h = ap (counted_more windows) (sym (search-done look rep limit end x last rest k h)) ∙ m.same

-- ---- the answer

module _ (s : Schedule) (well : BuiltWell s) (w : Way) (t d : ℕ) where
  answers : 0 < d → SearchAnswers (ahead w s t) (λ y. repeats s (at w t y)) (reach w t) d (search_rest (ahead w s t) (λ y. repeats s (at w t y)) s.limit (reach w t) 0 0 d fresh) (search w s t d)
  answers h = rw (search-start (ahead w s t) (λ y. repeats s (at w t y)) s.limit (reach w t) d h) (search-skipping s well.ok well.weekly w t d well.limit)

  module _ (limit end : ℕ) (l : limit ≡ s.limit) (e : end ≡ reach w t) (h : 0 < d) where
    at-limit : (r : Counted) → r ≡ search_rest (ahead w s t) (λ y. repeats s (at w t y)) limit end 0 0 d fresh → r ≡ search_rest (ahead w s t) (λ y. repeats s (at w t y)) s.limit (reach w t) 0 0 d fresh
    at-limit r q = rw (l, e) at q

    pub found-answer : (a : Answer ℕ) (c : ℕ) → counted a c ≡ search_rest (ahead w s t) (λ y. repeats s (at w t y)) limit end 0 0 d fresh → a ≡ search w s t d
    found-answer a c q = ap (λ (r : Counted). r.answer) (at-limit (counted a c) q) ∙ (answers h).same_answer

    pub found-count : (z c : ℕ) → counted (gives z) c ≡ search_rest (ahead w s t) (λ y. repeats s (at w t y)) limit end 0 0 d fresh → c ≡ needed_search w s t d z
    found-count z c q = ap (λ (r : Counted). r.count) (at-limit (counted (gives z) c) q) ∙ (answers h).exact z (sym (found-answer (gives z) c q))

  at_once : skip_search (ahead w s t) (λ y. repeats s (at w t y)) s.limit (reach w t) 0 ≡ counted (gives 0) 0
  unfolding skip_search
  at_once = refl

  pub nothing-found : d ≡ 0 → gives 0 ≡ search w s t d
  nothing-found e = rw e (ap (λ (r : Counted). r.answer) (sym at_once) ∙ (search-skipping s well.ok well.weekly w t 0 well.limit).same_answer)

  pub nothing-count : d ≡ 0 → 0 ≡ needed_search w s t d 0
  nothing-count e =
      let r = search-skipping s well.ok well.weekly w t 0 well.limit in
      let f : gives 0 ≡ search w s t 0 = ap (λ (r : Counted). r.answer) (sym at_once) ∙ r.same_answer in
      rw e (ap (λ (r : Counted). r.count) (sym at_once) ∙ r.exact 0 (sym f))
