-- How `yet` goes on by one byte: a law for each way that the code takes.
use mathlib.Core.Path.{◌≡◌, refl, sym, ap, ◌∙◌}
use mathlib.Core.Bool.{Bool, true, false, not, ◌&&◌, ◌||◌}
use mathlib.Core.Option.{Option, none, some}
use mathlib.Core.List.{List, [], ◌∷◌, ◌++◌, append_assoc, append-nil}
use Prim.Native.Nat.{ℕ, zero, suc, ◌+◌, ◌*◌, ◌-◌, ◌^◌, ◌≤◌, ◌<◌}
use native.Mathlib.Omega.{arith}
use lib.Chars.{codes}
use lib.Dec.{leb, ltb, eqb}
use lib.ListN.{length, take, set, length-append}
use lib.IntN.{ℤ}
use borrow.Author.Tests.{lt-ltb, le-leb, lt-leb, ne_eqb, leb-true, ltb-true, ltb-false}
use Rattle.std.proofs.Common as std
use Rattle.std.specs.Option.{is_some, unwrap_or}
use Rattle.std.specs.Str.{bytes_eq}
use Rattle.std.proofs.lemmas.List.{take_more_set, length-take}
use Rattle.std.proofs.lemmas.Slice.Eq.{bytes_eq-Decides}
use Rattle.model.specs.Basic.{◌>>=◌, is_in, all, each}
use Rattle.model.specs.Lines.{on_first, fields_of, decimal_from, magnitude, number_of}
use Rattle.laws_base.specs.Test.{by-test}
use Rattle.instant_signed.specs.Signed.{unbiased, unbiased-less, unbiased-more}
use Rattle.query_line.specs.Reading.{query_from, word_of, asked, asked_from, limit, sized, field_from, key_of, done_of, name_yet, rest_yet, yet, ask_four, ask_two}
use Rattle.query_line.specs.declared.Word.{Word}
use Rattle.query_line.specs.declared.Word.TheVariants.{Between, Add, Sub, Next, Previous}
use Rattle.query_line.specs.declared.Fields.{Fields}
use Rattle.query_line.specs.declared.name.Name as N
use Rattle.query_line.specs.declared.Line.TheVariants.{Name, Rest}

-- ---- partial answers

nothing : {A B : Type 0} (x : Option A) → ◌≡◌ {A = Option B} (x >>= λ a. none) none
nothing none = refl
nothing (some a) = refl

-- a first number and further ones, all at once or one after the other
in-turn : {B : Type 0} (x : Option ℤ) (y : Option (List ℤ)) (k : List ℤ → Option B) →
    ((x >>= λ z. y >>= λ ns. some (z ∷ ns)) >>= k) ≡ (x >>= λ z. y >>= λ ns. k (z ∷ ns))
in-turn none y k = refl
in-turn (some z) none k = refl
in-turn (some z) (some ns) k = refl

-- ---- fields

-- a list that is not empty
pub data Some : List (List ℕ) → Type 0 where
  one : (f : List ℕ) (l : List (List ℕ)) → Some (f ∷ l)

on-first : (c : ℕ) (l : List (List ℕ)) → Some (on_first c l)
on-first c [] = one (c ∷ []) []
on-first c (f ∷ l) = one (c ∷ f) l

pub has-field : (s : List ℕ) → Some (fields_of s)
unfolding fields_of
has-field [] = one [] []
has-field (c ∷ s) = by-test (eqb c 32) (λ e. rw e (one [] (fields_of s))) (λ e. rw e (on-first c (fields_of s)))

at-space : (s : List ℕ) → fields_of (32 ∷ s) ≡ [] ∷ fields_of s
unfolding fields_of
at-space s = refl

at_other : (c : ℕ) (s : List ℕ) → (c ≡ 32 → ⊥) → fields_of (c ∷ s) ≡ on_first c (fields_of s)
unfolding fields_of
at_other c s h = rw (ne_eqb c 32 h)

number-from : (f : List ℕ) → number_of f ≡ field_from false false 0 f
unfolding number_of field_from sized magnitude
number-from [] = refl
number-from (c ∷ f) = refl

-- ---- the first word

differs : (w p : List ℕ) → length p < length w → bytes_eq w p ≡ false
differs w p h = by-test (bytes_eq w p) (λ e. let q : w ≡ p = (bytes_eq-Decides w p).0 e in absurd (omega (arith, ap length q))) (λ e. e)

word-long : (w : List ℕ) → 8 < length w → word_of w ≡ std.None
unfolding word_of
word-long w h =
    rw (differs w (codes "between") (omega arith), differs w (codes "add") (omega arith), differs w (codes "sub") (omega arith), differs w (codes "next") (omega arith), differs w (codes "previous") (omega arith))

name-space : (w : List ℕ) (word : Word) {ls : List (List ℕ)} → std.Some word ≡ word_of w → Some ls → rest_yet word [] false false 0 ls ≡ name_yet w ([] ∷ ls)
unfolding name_yet rest_yet each
name-space w word e (one f l) = rw (append-nil, ← e, number-from f) (sym (in-turn (field_from false false 0 f) (each number_of l) (asked word)))

no-name : (w : List ℕ) (ls : List (List ℕ)) → std.None ≡ word_of w → none ≡ name_yet w ([] ∷ ls)
unfolding name_yet
no-name w ls e = rw (append-nil, ← e) (sym (nothing (each number_of ls)))

name-more : (w : List ℕ) (c : ℕ) {ls : List (List ℕ)} → Some ls → name_yet (w ++ (c ∷ [])) ls ≡ name_yet w (on_first c ls)
unfolding name_yet
name-more w c (one f l) = rw append_assoc

name-long : (w : List ℕ) (c : ℕ) {ls : List (List ℕ)} → 8 ≤ length w → Some ls → none ≡ name_yet w (on_first c ls)
unfolding name_yet
name-long w c h (one f l) = rw (word-long (w ++ (c ∷ f)) (omega (arith, length-append w (c ∷ f)))) (sym (nothing (each number_of l)))

-- the laws that `name_fed` cites
module _ (n : N.Name) (s : List ℕ) where
  pub name-ended : {word : Word} → std.Some word ≡ word_of (take n.len n.bytes) →
      yet (Rest (record { word = word; count = 0; a = 0; b = 0; c = 0; minus = false; value = std.None })) s ≡ yet (Name n) (32 ∷ s)
  unfolding yet
  name-ended {word} e = rw (at-space s) (name-space (take n.len n.bytes) word e (has-field s))

  pub name-other : std.None ≡ word_of (take n.len n.bytes) → none ≡ yet (Name n) (32 ∷ s)
  unfolding yet
  name-other e = rw (at-space s) (no-name (take n.len n.bytes) (fields_of s) e)

  pub name-goes-on : (c : ℕ) (m : N.Name) → (c ≡ 32 → ⊥) → n.len < length n.bytes → m.bytes ≡ set n.bytes n.len c → m.len ≡ n.len + 1 → yet (Name m) s ≡ yet (Name n) (c ∷ s)
  unfolding yet
  name-goes-on c m h k e g = rw (at_other c s h, e, g, take_more_set n.bytes n.len c k) (name-more (take n.len n.bytes) c (has-field s))

  pub name-too-long : (c : ℕ) → (c ≡ 32 → ⊥) → 8 ≤ n.len → 8 ≤ length n.bytes → none ≡ yet (Name n) (c ∷ s)
  unfolding yet
  name-too-long c h k g = rw (at_other c s h) (name-long (take n.len n.bytes) c (omega (arith, length-take n.len n.bytes)) (has-field s))

-- ---- the field at hand

decimal-grows : (v : ℕ) (l : List ℕ) → v ≤ decimal_from v l
unfolding decimal_from
decimal-grows v [] = omega arith
decimal-grows v (c ∷ l) = let h : v * 10 + (c - 48) ≤ decimal_from (v * 10 + (c - 48)) l = decimal-grows (v * 10 + (c - 48)) l in omega arith

and_no : (a b : Bool) → (a && (b && false)) ≡ false
and_no true true = refl
and_no true false = refl
and_no false b = refl

at_most : (m : Bool) → limit m ≤ 2 ^ 63
at_most true = omega arith
at_most false = omega arith

-- digits that are too many
too_large : (m d : Bool) (v : ℕ) (l : List ℕ) → 2 ^ 63 < v → sized m d v l ≡ none
unfolding sized
too_large m d v l h =
    let g : v ≤ decimal_from v l = decimal-grows v l in
    let k : limit m ≤ 2 ^ 63 = at_most m in
    rw (lt-leb (decimal_from v l) (limit m) (omega arith), and_no (d || ltb 0 (length l)) (all (is_in 48 57) l))

or-more : (d : Bool) (n : ℕ) → (d || ltb 0 (suc n)) ≡ true
or-more true n = refl
or-more false n = lt-ltb 0 (suc n) (omega arith)

-- a byte that is no digit
no_digit : (m d : Bool) (v c : ℕ) (l : List ℕ) → is_in 48 57 c ≡ false → sized m d v (c ∷ l) ≡ none
unfolding sized all
no_digit m d v c l h = rw (or-more d (length l), h)

-- a digit
sized-digit : (m d : Bool) (v c : ℕ) (l : List ℕ) → 48 ≤ c → c ≤ 57 → sized m d v (c ∷ l) ≡ sized m true (v * 10 + (c - 48)) l
unfolding sized all decimal_from
sized-digit m d v c l h k = rw (or-more d (length l), le-leb 48 c h, le-leb c 57 k)

from-digits : (m : Bool) (v : ℕ) (l : List ℕ) → field_from m true v l ≡ sized m true v l
unfolding field_from
from-digits m v [] = refl
from-digits true v (c ∷ l) = refl
from-digits false v (c ∷ l) = refl

from-minus : (d : Bool) (v : ℕ) (l : List ℕ) → field_from true d v l ≡ sized true d v l
unfolding field_from
from-minus d v [] = refl
from-minus d v (c ∷ l) = refl

from-other : (m d : Bool) (v c : ℕ) (l : List ℕ) → (c ≡ 45 → ⊥) → field_from m d v (c ∷ l) ≡ sized m d v (c ∷ l)
unfolding field_from
from-other m d v c l h = rw (ne_eqb c 45 h, and_no (not m) (not d))

field-digit : (m d : Bool) (v c : ℕ) (l : List ℕ) → 48 ≤ c → c ≤ 57 → field_from m d v (c ∷ l) ≡ field_from m true (v * 10 + (c - 48)) l
field-digit m d v c l h k = from-other m d v c l (λ e. omega arith) ∙ sized-digit m d v c l h k ∙ sym (from-digits m (v * 10 + (c - 48)) l)

field-large : (m d : Bool) (v c : ℕ) (l : List ℕ) → 48 ≤ c → c ≤ 57 → 2 ^ 63 < v * 10 + (c - 48) → field_from m d v (c ∷ l) ≡ none
field-large m d v c l h k g = field-digit m d v c l h k ∙ from-digits m (v * 10 + (c - 48)) l ∙ too_large m true (v * 10 + (c - 48)) l g

field-other : (m d : Bool) (v c : ℕ) (l : List ℕ) → (c ≡ 45 → ⊥) → is_in 48 57 c ≡ false → field_from m d v (c ∷ l) ≡ none
field-other m d v c l h k = from-other m d v c l h ∙ no_digit m d v c l k

field-sign : (v : ℕ) (l : List ℕ) → field_from false false v (45 ∷ l) ≡ field_from true false v l
unfolding field_from
field-sign v [] = refl
field-sign v (c ∷ l) = refl

minus-again : (d : Bool) (v : ℕ) (l : List ℕ) → field_from true d v (45 ∷ l) ≡ none
minus-again d v l = from-minus d v (45 ∷ l) ∙ no_digit true d v 45 l refl

minus-late : (m : Bool) (v : ℕ) (l : List ℕ) → field_from m true v (45 ∷ l) ≡ none
minus-late m v l = from-digits m v (45 ∷ l) ∙ no_digit m true v 45 l refl

-- ---- a field that has ended

-- what `key_of` gives, as the definitions have it
abbrev key_is : std.Option ℕ → Option ℤ
key_is (std.Some k) = some (unbiased k)
key_is std.None = none

key-is : (m : Bool) (o : std.Option ℕ) → field_from m (is_some o) (unwrap_or o 0) [] ≡ key_is (key_of m o)
unfolding field_from sized all decimal_from key_of
key-is true std.None = refl
key-is false std.None = refl
key-is true (std.Some v) = by-test (leb v (2 ^ 63)) (λ e. rw e (ap some (sym (unbiased-less v (leb-true v (2 ^ 63) e))))) (λ e. rw e)
key-is false (std.Some v) =
    by-test (ltb v (2 ^ 63)) (λ e. rw (e, le-leb v (2 ^ 63 - 1) (lower e)) (ap some (sym (unbiased-more v)))) (λ e. rw (e, lt-leb v (2 ^ 63 - 1) (upper e)))
  where
    lower : ltb v (2 ^ 63) ≡ true → v ≤ 2 ^ 63 - 1
    lower e = omega (arith, ltb-true v (2 ^ 63) e)

    upper : ltb v (2 ^ 63) ≡ false → 2 ^ 63 - 1 < v
    upper e = omega (arith, ltb-false v (2 ^ 63) e)

-- ---- numbers read

-- one more number is read
done_more : (n a b c k : ℕ) → n < 3 → done_of (n + 1) b c k ≡ done_of n a b c ++ (unbiased k ∷ [])
done_more zero a b c k h = refl
done_more (suc zero) a b c k h = refl
done_more (suc (suc zero)) a b c k h = refl
done_more (suc (suc (suc n))) a b c k h = absurd (omega arith)

done-three : (n a b c : ℕ) → 3 ≤ n → done_of n a b c ≡ unbiased a ∷ unbiased b ∷ unbiased c ∷ []
done-three zero a b c h = absurd (omega arith)
done-three (suc zero) a b c h = absurd (omega arith)
done-three (suc (suc zero)) a b c h = absurd (omega arith)
done-three (suc (suc (suc n))) a b c h = refl

-- five numbers and more are no query
asked-five : (word : Word) (a b c d e : ℤ) (l : List ℤ) → asked word (a ∷ b ∷ c ∷ d ∷ e ∷ l) ≡ none
unfolding asked
asked-five word a b c d e l =
    cases word (ne_eqb (length (a ∷ b ∷ c ∷ d ∷ e ∷ l)) 4 (λ q. omega arith)) (ne_eqb (length (a ∷ b ∷ c ∷ d ∷ e ∷ l)) 2 (λ q. omega arith))
  where
    cases : (word : Word) → eqb (length (a ∷ b ∷ c ∷ d ∷ e ∷ l)) 4 ≡ false → eqb (length (a ∷ b ∷ c ∷ d ∷ e ∷ l)) 2 ≡ false → asked word (a ∷ b ∷ c ∷ d ∷ e ∷ l) ≡ none
    cases Between p q = rw p
    cases Add p q = rw p
    cases Sub p q = rw p
    cases Next p q = rw q
    cases Previous p q = rw q

module _ (word : Word) (done : List ℤ) (m d : Bool) (v : ℕ) where
  -- the field at hand is no number
  rest-no : (f : List ℕ) (l : List (List ℕ)) → field_from m d v f ≡ none → none ≡ rest_yet word done m d v (f ∷ l)
  unfolding rest_yet
  rest-no f l e = rw e

  -- a number and a space
  rest-next : (k : ℕ) {ls : List (List ℕ)} → field_from m d v [] ≡ some (unbiased k) → Some ls →
      rest_yet word (done ++ (unbiased k ∷ [])) false false 0 ls ≡ rest_yet word done m d v ([] ∷ ls)
  unfolding rest_yet each
  rest-next k e (one f l) = rw (e, ← number-from f) (go (number_of f) (each number_of l))
    where
      go : (x : Option ℤ) (y : Option (List ℤ)) →
          (x >>= λ z. y >>= λ ns. asked word ((done ++ (unbiased k ∷ [])) ++ z ∷ ns)) ≡ ((x >>= λ z. y >>= λ ns. some (z ∷ ns)) >>= λ ns. asked word (done ++ unbiased k ∷ ns))
      go none y = refl
      go (some z) none = refl
      go (some z) (some ns) = rw append_assoc

-- a fifth field
rest-full : (word : Word) (a b c : ℤ) (m d : Bool) (v k : ℕ) {ls : List (List ℕ)} → field_from m d v [] ≡ some (unbiased k) → Some ls →
    none ≡ rest_yet word (a ∷ b ∷ c ∷ []) m d v ([] ∷ ls)
unfolding rest_yet each
rest-full word a b c m d v k e (one f l) = rw e (go (number_of f) (each number_of l))
  where
    go : (x : Option ℤ) (y : Option (List ℤ)) →
        none ≡ ((x >>= λ z. y >>= λ ns. some (z ∷ ns)) >>= λ ns. asked word (a ∷ b ∷ c ∷ unbiased k ∷ ns))
    go none y = refl
    go (some z) none = refl
    go (some z) (some ns) = sym (asked-five word a b c (unbiased k) z ns)

-- a byte of the field at hand
rest-byte : (word : Word) (done : List ℤ) (m d m' d' : Bool) (v v' c : ℕ) {ls : List (List ℕ)} → ((f : List ℕ) → field_from m d v (c ∷ f) ≡ field_from m' d' v' f) → Some ls →
    rest_yet word done m' d' v' ls ≡ rest_yet word done m d v (on_first c ls)
unfolding rest_yet
rest-byte word done m d m' d' v v' c h (one f l) = rw (h f)

rest-wrong : (word : Word) (done : List ℤ) (m d : Bool) (v c : ℕ) {ls : List (List ℕ)} → ((f : List ℕ) → field_from m d v (c ∷ f) ≡ none) → Some ls →
    none ≡ rest_yet word done m d v (on_first c ls)
unfolding rest_yet
rest-wrong word done m d v c h (one f l) = rw (h f)

key-some : (m : Bool) (o : std.Option ℕ) (k : ℕ) → std.Some k ≡ key_of m o → field_from m (is_some o) (unwrap_or o 0) [] ≡ some (unbiased k)
key-some m o k e = key-is m o ∙ ap key_is (sym e)

key-none : (m : Bool) (o : std.Option ℕ) → std.None ≡ key_of m o → field_from m (is_some o) (unwrap_or o 0) [] ≡ none
key-none m o e = key-is m o ∙ ap key_is (sym e)

-- ---- the laws that the functions on fields cite
module _ (f : Fields) where
  abbrev has : Bool
  has = is_some f.value

  abbrev value : ℕ
  value = unwrap_or f.value 0

  abbrev done : List ℤ
  done = done_of f.count f.a f.b f.c

  module _ (s : List ℕ) where
    pub space-no : std.None ≡ key_of f.minus f.value → none ≡ yet (Rest f) (32 ∷ s)
    unfolding yet
    space-no e = rw (at-space s) (rest-no f.word done f.minus has value [] (fields_of s) (key-none f.minus f.value e))

    pub space-full : {k : ℕ} → std.Some k ≡ key_of f.minus f.value → 3 ≤ f.count → none ≡ yet (Rest f) (32 ∷ s)
    unfolding yet
    space-full {k} e h =
        rw (at-space s, done-three f.count f.a f.b f.c h)
        (rest-full f.word (unbiased f.a) (unbiased f.b) (unbiased f.c) f.minus has value k (key-some f.minus f.value k e) (has-field s))

    pub space-next : {k : ℕ} → std.Some k ≡ key_of f.minus f.value → f.count < 3 →
        yet (Rest (record { word = f.word; count = f.count + 1; a = f.b; b = f.c; c = k; minus = false; value = std.None })) s ≡ yet (Rest f) (32 ∷ s)
    unfolding yet
    space-next {k} e h =
        rw (at-space s, done_more f.count f.a f.b f.c k h)
        (rest-next f.word done f.minus has value k (key-some f.minus f.value k e) (has-field s))

    wrong : (c : ℕ) → (c ≡ 32 → ⊥) → ((l : List ℕ) → field_from f.minus has value (c ∷ l) ≡ none) → none ≡ yet (Rest f) (c ∷ s)
    unfolding yet
    wrong c h e = rw (at_other c s h) (rest-wrong f.word done f.minus has value c e (has-field s))

    right : (c : ℕ) (m : Bool) (o : std.Option ℕ) → (c ≡ 32 → ⊥) → ((l : List ℕ) → field_from f.minus has value (c ∷ l) ≡ field_from m (is_some o) (unwrap_or o 0) l) →
        yet (Rest (record { word = f.word; count = f.count; a = f.a; b = f.b; c = f.c; minus = m; value = o })) s ≡ yet (Rest f) (c ∷ s)
    unfolding yet
    right c m o h e = rw (at_other c s h) (rest-byte f.word done f.minus has m (is_some o) value (unwrap_or o 0) c e (has-field s))

    pub digit-large : (c : ℕ) → 48 ≤ c → c ≤ 57 → 2 ^ 63 < unwrap_or f.value 0 * 10 + (c - 48) → none ≡ yet (Rest f) (c ∷ s)
    digit-large c h k g = wrong c (λ e. omega arith) (λ l. field-large f.minus has value c l h k g)

    pub digit-goes-on : (c : ℕ) {n : ℕ} → n ≡ unwrap_or f.value 0 * 10 + (c - 48) → 48 ≤ c → c ≤ 57 →
        yet (Rest (record { word = f.word; count = f.count; a = f.a; b = f.b; c = f.c; minus = f.minus; value = std.Some n })) s ≡ yet (Rest f) (c ∷ s)
    digit-goes-on c {n} e h k = right c f.minus (std.Some n) (λ e. omega arith) (λ l. rw e (field-digit f.minus has value c l h k))

    pub sign-again : f.minus ≡ true → none ≡ yet (Rest f) (45 ∷ s)
    sign-again e = wrong 45 (λ q. omega arith) (λ l. rw e (minus-again has value l))

    pub sign-late : is_some f.value ≡ true → none ≡ yet (Rest f) (45 ∷ s)
    sign-late e = wrong 45 (λ q. omega arith) (λ l. rw e (minus-late f.minus value l))

    pub sign-first : f.minus ≡ false → is_some f.value ≡ false →
        yet (Rest (record { word = f.word; count = f.count; a = f.a; b = f.b; c = f.c; minus = true; value = f.value })) s ≡ yet (Rest f) (45 ∷ s)
    sign-first e g = right 45 true f.value (λ q. omega arith) (λ l. rw (e, g) (field-sign value l))

    pub below-digits : (c : ℕ) → (c ≡ 32 → ⊥) → (c ≡ 45 → ⊥) → c < 48 → none ≡ yet (Rest f) (c ∷ s)
    below-digits c h k g = wrong c h (λ l. field-other f.minus has value c l k (rw (lt-leb 48 c g)))

    pub above-digits : (c : ℕ) → (c ≡ 32 → ⊥) → (c ≡ 45 → ⊥) → 57 < c → none ≡ yet (Rest f) (c ∷ s)
    above-digits c h k g = wrong c h (λ l. field-other f.minus has value c l k (rw (le-leb 48 c (omega arith), lt-leb c 57 g)))

  -- ---- the end of a line

  ended : (k : ℕ) → std.Some k ≡ key_of f.minus f.value → yet (Rest f) [] ≡ asked f.word (done_of f.count f.a f.b f.c ++ unbiased k ∷ [])
  unfolding yet rest_yet fields_of each
  ended k e = rw (key-some f.minus f.value k e)

  pub end-no : std.None ≡ key_of f.minus f.value → none ≡ yet (Rest f) []
  unfolding yet rest_yet fields_of
  end-no e = rw (key-none f.minus f.value e)

  pub end-four : {k : ℕ} → std.Some k ≡ key_of f.minus f.value → 3 ≤ f.count → query_from (ask_four f.word f.a f.b f.c k) ≡ yet (Rest f) []
  unfolding asked ask_four
  end-four {k} e h = sym (ended k e ∙ rw (done-three f.count f.a f.b f.c h) (go f.word))
    where
      go : (word : Word) → asked word (unbiased f.a ∷ unbiased f.b ∷ unbiased f.c ∷ unbiased k ∷ []) ≡ query_from (ask_four word f.a f.b f.c k)
      go Between = refl
      go Add = refl
      go Sub = refl
      go Next = refl
      go Previous = refl

  pub end-two : {k : ℕ} → std.Some k ≡ key_of f.minus f.value → f.count ≡ 1 → query_from (ask_two f.word f.c k) ≡ yet (Rest f) []
  unfolding asked ask_two
  end-two {k} e h = sym (ended k e ∙ rw h (go f.word))
    where
      go : (word : Word) → asked word (unbiased f.c ∷ unbiased k ∷ []) ≡ query_from (ask_two word f.c k)
      go Between = refl
      go Add = refl
      go Sub = refl
      go Next = refl
      go Previous = refl

  pub end-other : {k : ℕ} → std.Some k ≡ key_of f.minus f.value → f.count < 3 → (f.count ≡ 1 → ⊥) → none ≡ yet (Rest f) []
  unfolding asked
  end-other {k} e h g = sym (ended k e ∙ go f.word f.count h g)
    where
      go : (word : Word) (n : ℕ) → n < 3 → (n ≡ 1 → ⊥) → asked word (done_of n f.a f.b f.c ++ unbiased k ∷ []) ≡ none
      go word (suc zero) h g = absurd (g refl)
      go word (suc (suc (suc n))) h g = absurd (omega arith)
      go Between zero h g = refl
      go Add zero h g = refl
      go Sub zero h g = refl
      go Next zero h g = refl
      go Previous zero h g = refl
      go Between (suc (suc zero)) h g = refl
      go Add (suc (suc zero)) h g = refl
      go Sub (suc (suc zero)) h g = refl
      go Next (suc (suc zero)) h g = refl
      go Previous (suc (suc zero)) h g = refl

pub name-only : (n : N.Name) → none ≡ yet (Name n) []
unfolding yet name_yet fields_of each asked
name-only n = sym (go (word_of (take n.len n.bytes ++ [])))
  where
    go : (word : std.Option Word) → asked_from word [] ≡ none
    go (std.Some Between) = refl
    go (std.Some Add) = refl
    go (std.Some Sub) = refl
    go (std.Some Next) = refl
    go (std.Some Previous) = refl
    go std.None = refl
