-- The first n elements of a list, each under f: what a counted array means.
use Rattle.std.specs.Prelude.{ℕ, ◌+◌, ◌-◌, ◌<◌, ◌≤◌, ◌≡◌, List, [], ◌∷◌, ◌++◌, map, length, take, drop, get_or, set}
use Rattle.std.proofs.Common.{◌∙◌, arith, add-one, drop_of_length-le, take-suc-set, drop-cons, length-take-le, get_or-take}
use Rattle.std.proofs.lemmas.List.{map-append, length-map, take-set-le}
use Rattle.std.proofs.Math.ListN.{get_or-map}

module _ {A B : Type 0} (f : A → B) where
  abbrev pub front : ℕ → List A → List B
  front n l = map f (take n l)

  pub front_length : (n : ℕ) (l : List A) → n ≤ length l → length (front n l) ≡ n
  front_length n l h = length-map (take n l) f ∙ length-take-le n l h

  -- a store at the end
  pub front-push : (n : ℕ) (l : List A) (x : A) → n < length l → front (n + 1) (set l n x) ≡ front n l ++ (f x ∷ [])
  front-push n l x h = rw (add-one, take-suc-set) (map-append f (take n l) (x ∷ []))

  -- a store past the end
  pub front-set : (n : ℕ) (l : List A) (i : ℕ) (x : A) → n ≤ i → front n (set l i x) ≡ front n l
  front-set n l i x h = rw take-set-le

  -- what is left from i on
  pub rest-cons : (n : ℕ) (l : List A) (i : ℕ) (d : A) → i < n → n ≤ length l → drop i (front n l) ≡ f (get_or l i d) ∷ drop (i + 1) (front n l)
  rest-cons n l i d h k =
      let e : length (front n l) ≡ n = front_length n l k in
      let p : i < length (front n l) = omega arith in
      drop-cons (front n l) i (f d) p ∙ rw (add-one, get_or-map f (take n l) i d, get_or-take n l i d)

  pub rest-none : (n : ℕ) (l : List A) → n ≤ length l → drop n (front n l) ≡ []
  rest-none n l k =
      let h : length (front n l) ≤ n = omega (arith, front_length n l k) in
      drop_of_length-le (front n l) h
