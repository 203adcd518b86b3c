-- `footer_of` accepts each TZ string of the grammar, and gives its value.
use Rattle.std.specs.Prelude.{◌≡◌, refl, Bool, true, false, ◌||◌, List, [], ◌∷◌, ◌++◌, ◌⊎◌, ℕ, zero, suc, ◌+◌, ◌*◌, ◌-◌, ◌≤◌, eqb, length}
use Rattle.std.proofs.Common.{sym, ap, ◌∙◌, append-nil, append_assoc, inl, inr, le_of_suc-le-suc, not-suc-le-zero, arith, length-append}
use Rattle.std.proofs.Math.Option.{Option, none, some, none-ne-some, some-injective}
use Prim.Native.Char.{code}
use borrow.Author.Tests.{eqb-true, eq-eqb, le-leb, ne_eqb}
use Rattle.model.specs.Basic.{is_in, all}
use Rattle.model.specs.Footer as F
use Rattle.model.specs.Footer.{Day, ChangeRule, Footer, fixed, rules, after, ◌>>=◌, only, has, byte, at_end, is_digit, is_letter, spanned, digits, is_name_byte, name, most_hours, most_rule_hours, sign, clock, signed_clock, offset_by, offset, time_by, signed_time, rule_time, month_text, day_text, change_rule_text, daylight_text, footer_text, parsed, footer_of}
use Rattle.model.specs.Lines.{decimal_from}
use Rattle.laws_base.specs.Test.{by-test, by-either, or-true, clash, in_bounds, within, all_head}
use Rattle.laws_bytes.specs.TzGrammar.{Decimal, more, Number, number, Sixty, sixty, Clock, hours, minutes, seconds, Letter, upper, lower, Quoted, letter, plus, minus, Word, three, longer, Name, bare, quoted, Sign, unsigned, positive, negative, Offset, west, east, DateText, date_j, date_n, date_m, TimeText, posix, later, earlier, RuleText, untimed, timed, DaylightText, hour, written, TzString, standard, daylight}
use Rattle.laws_bytes.specs.TzSound.{some-digit, single, letter-of, tz-sound}

-- the rest of a text, at its end or at a byte that fails the test
abbrev Stops : (ℕ → Bool) → List ℕ → Type 0
Stops t [] = Unit {0}
Stops t (c ∷ s) = t c ≡ false

stops-too : (t u : ℕ → Bool) → ((c : ℕ) → u c ≡ true → t c ≡ true) → (r : List ℕ) → Stops t r → Stops u r
stops-too t u f [] h = tt
stops-too t u f (c ∷ r) h = by-test (u c) (λ e. clash (t c) (f c e) h) (λ e. e)

-- no byte c there
has_no : (c : ℕ) (r : List ℕ) → Stops (λ x. eqb x c) r → has c r ≡ some (false, r)
has_no c [] h = refl
has_no c (x ∷ r) h = rw h

either : (a : Bool) {b : Bool} → b ≡ true → (a || b) ≡ true
either true e = refl
either false e = e

-- ---- numbers

all_append : (t : ℕ → Bool) (s u : List ℕ) → all t s ≡ true → all t u ≡ true → all t (s ++ u) ≡ true
unfolding all
all_append t [] u h k = k
all_append t (c ∷ s) u h k = let p = all_head t c s h in rw p.0 (all_append t s u p.1 k)

value-append : (v : ℕ) (s u : List ℕ) → decimal_from v (s ++ u) ≡ decimal_from (decimal_from v s) u
unfolding decimal_from
value-append v [] u = refl
value-append v (c ∷ s) u = value-append (v * 10 + (c - 48)) s u

-- a number's bytes are digits and write it
decimal-digits : {s : List ℕ} {n : ℕ} → Decimal s n → all is_digit s ≡ true
unfolding all
decimal-digits (Decimal.digit d h) = rw (within 48 57 (48 + d) (omega arith) (omega arith))
decimal-digits (more {s = s} n d h) = all_append is_digit s ((48 + d) ∷ []) (decimal-digits n) (rw (within 48 57 (48 + d) (omega arith) (omega arith)))

decimal-value : {s : List ℕ} {n : ℕ} → Decimal s n → decimal_from 0 s ≡ n
unfolding decimal_from
decimal-value (Decimal.digit d h) = omega arith
decimal-value (more {s = s} {n = n} m d h) = value-append 0 s ((48 + d) ∷ []) ∙ rw (decimal-value m) (omega arith)

-- the number ends where no digit follows, or where it has all its digits
Ends : ℕ → List ℕ → List ℕ → Type 0
Ends k w r = Stops is_digit r ⊎ (length w ≡ k)

digits-give : (w r : List ℕ) (k v : ℕ) → all is_digit w ≡ true → length w ≤ k → Ends k w r → digits k v (w ++ r) ≡ some (decimal_from v w, r)
unfolding digits decimal_from Ends
digits-give [] r zero v a h e = refl
digits-give [] [] (suc k) v a h e = refl
digits-give [] (c ∷ r) (suc k) v a h (inl e) = rw e
digits-give [] (c ∷ r) (suc k) v a h (inr e) = absurd (omega arith)
digits-give (c ∷ w) r zero v a h e = absurd (not-suc-le-zero h)
digits-give (c ∷ w) r (suc k) v a h e =
    let p = all_head is_digit c w a in
    rw p.0 (digits-give w r k (v * 10 + (c - 48)) p.1 (le_of_suc-le-suc h) (by-either (λ (q : Stops is_digit r). inl q) (λ (q : suc (length w) ≡ suc k). inr (omega arith)) e))

number-gives : {k lo hi n : ℕ} (w r : List ℕ) → Number k lo hi w n → Ends k w r → F.number k lo hi (w ++ r) ≡ some (n, r)
unfolding F.number
number-gives [] r (number d h l u) e = absurd (omega (arith, some-digit d))
number-gives {k} {lo} {hi} {n} (c ∷ w) r (number d h l u) e =
    rw ((all_head is_digit c w (decimal-digits d)).0, digits-give (c ∷ w) r k 0 (decimal-digits d) h e, decimal-value d, within lo hi n l u)

-- a number of one digit at most ends anywhere
one-gives : {lo hi n : ℕ} (w r : List ℕ) → Number 1 lo hi w n → F.number 1 lo hi (w ++ r) ≡ some (n, r)
unfolding Ends
one-gives w r (number d h l u) = number-gives w r (number d h l u) (inr (ap length (single d h).0))

sixty-gives : {n : ℕ} (w r : List ℕ) → Sixty w n → F.sixty (w ++ r) ≡ some (n, r)
unfolding F.sixty
sixty-gives w r (sixty (Decimal.digit d h) k u) = absurd (omega (arith, k))
sixty-gives w r (sixty (more {s = s} {n = a} m d h) k u) =
    let i : length s ≤ 1 = omega (arith, k, length-append s ((48 + d) ∷ [])) in
    rw (
      append_assoc s ((48 + d) ∷ []) r,
      one-gives {lo = 0} {hi = 5} s ((48 + d) ∷ r) (number m i (omega arith) (omega arith)),
      one-gives {lo = 0} {hi = 9} ((48 + d) ∷ []) r (number (Decimal.digit d h) (omega arith) (omega arith) h),
    )

-- behind a clock: no digit and no colon, which is the byte behind the digits
abbrev Free : List ℕ → Type 0
Free r = Stops (is_in 48 58) r

free-digit : (r : List ℕ) → Free r → Stops is_digit r
free-digit r h =
    stops-too (is_in 48 58) is_digit (λ c e. let b = in_bounds 48 57 c e in within 48 58 c b.0 (omega (arith, b.1))) r h

free-colon : (r : List ℕ) → Free r → Stops (λ x. eqb x 58) r
free-colon r h = stops-too (is_in 48 58) (λ x. eqb x 58) (λ c e. rw (eqb-true c 58 e)) r h

clock-gives : {k hi t : ℕ} (w r : List ℕ) → Clock k hi w t → Free r → clock k hi (w ++ r) ≡ some (t, r)
unfolding clock Ends
clock-gives w r (hours g) h = rw (number-gives w r g (inl (free-digit r h)), has_no 58 r (free-colon r h))
clock-gives w r (minutes {s = s} {t = t} g i) h =
    rw (append_assoc s (58 ∷ t) r, number-gives s (58 ∷ (t ++ r)) g (inl refl), sixty-gives t r i, has_no 58 r (free-colon r h))
clock-gives w r (seconds {s = s} {t = t} {u = u} g i j) h =
    rw (
      append_assoc (s ++ 58 ∷ t) (58 ∷ u) r,
      append_assoc s (58 ∷ t) (58 ∷ (u ++ r)),
      number-gives s (58 ∷ (t ++ 58 ∷ (u ++ r))) g (inl refl),
      sixty-gives t (58 ∷ (u ++ r)) i,
      sixty-gives u r j,
    )

-- ---- names

letter-passes : {c : ℕ} → Letter c → is_letter c ≡ true
letter-passes {c} (upper h k) = rw (within 65 90 c h k)
letter-passes {c} (lower h k) = either (is_in 65 90 c) (within 97 122 c h k)

bare-passes : {c : ℕ} → Letter c → is_name_byte false c ≡ true
unfolding is_name_byte
bare-passes l = rw (letter-passes l)

quoted-passes : {c : ℕ} → Quoted c → is_name_byte true c ≡ true
unfolding is_name_byte
quoted-passes (letter l) = rw (letter-passes l)
quoted-passes {c} (Quoted.digit h k) = either (is_letter c) (rw (within 48 57 c h k))
quoted-passes plus = refl
quoted-passes minus = refl

span-gives : (t : ℕ → Bool) (w r : List ℕ) → all t w ≡ true → Stops t r → spanned t (w ++ r) ≡ (length w, r)
unfolding spanned all
span-gives t [] [] h k = refl
span-gives t [] (c ∷ r) h k = rw k
span-gives t (c ∷ w) r h k = let p = all_head t c w h in rw (p.0, span-gives t w r p.1 k)

word-passes : {P : ℕ → Type 0} (t : ℕ → Bool) → ((c : ℕ) → P c → t c ≡ true) → (w : List ℕ) → Word P w → (all t w ≡ true) × (3 ≤ length w)
unfolding all
word-passes t f w (three {a = a} {b = b} {c = c} p q r) = (rw (f a p, f b q, f c r), omega arith)
word-passes t f w (longer {a = a} {s = s} p q) = let n = word-passes t f s q in (rw (f a p) n.0, omega (arith, n.1))

-- a word's first byte
word_first : {P : ℕ → Type 0} (u : ℕ → Bool) → ((c : ℕ) → P c → u c ≡ false) → (w r : List ℕ) → Word P w → Stops u (w ++ r)
word_first u f w r (three {a = a} p q x) = f a p
word_first u f w r (longer {a = a} p q) = f a p

letter-above : {c : ℕ} → Letter c → 65 ≤ c
letter-above (upper h k) = h
letter-above (lower h k) = omega (arith, h)

bare-letter : (c : ℕ) → is_name_byte false c ≡ true → is_letter c ≡ true
unfolding is_name_byte
bare-letter c e = by-either (λ (p : is_letter c ≡ true). p) (λ (p : false ≡ true). clash false p refl) (or-true (is_letter c) false e)

-- behind a name there is no letter
name-gives : (w r : List ℕ) → Name w → Stops is_letter r → name (w ++ r) ≡ some (true, r)
unfolding name
name-gives w r (bare p) h =
    let n = word-passes (is_name_byte false) (λ c. bare-passes) w p in
    rw (
      has_no 60 (w ++ r) (word_first (λ x. eqb x 60) (λ c l. ne_eqb c 60 (λ e. omega (arith, letter-above l, e))) w r p),
      span-gives (is_name_byte false) w r n.0 (stops-too is_letter (is_name_byte false) bare-letter r h),
      le-leb 3 (length w) n.1,
    )
name-gives w r (quoted {s = s} p) h =
    let n = word-passes (is_name_byte true) (λ c. quoted-passes) s p in
    rw (append_assoc s (62 ∷ []) r, span-gives (is_name_byte true) s (62 ∷ r) n.0 (unfold is_name_byte in refl), le-leb 3 (length s) n.1)

-- ---- offsets, dates and times

-- what begins with a digit passes no test that digits fail
number-first : {k lo hi n : ℕ} (u : ℕ → Bool) → ((c : ℕ) → is_digit c ≡ true → u c ≡ false) → (w r : List ℕ) → Number k lo hi w n → Stops u (w ++ r)
number-first u f [] r (number d h l x) = absurd (omega (arith, some-digit d))
number-first u f (c ∷ w) r (number d h l x) = f c (all_head is_digit c w (decimal-digits d)).0

clock-first : {k hi t : ℕ} (u : ℕ → Bool) → ((c : ℕ) → is_digit c ≡ true → u c ≡ false) → (w r : List ℕ) → Clock k hi w t → Stops u (w ++ r)
clock-first u f w r (hours g) = number-first u f w r g
clock-first u f w r (minutes {s = s} {t = t} g i) = rw (append_assoc s (58 ∷ t) r) (number-first u f s (58 ∷ (t ++ r)) g)
clock-first u f w r (seconds {s = s} {t = t} {u = v} g i j) = rw (append_assoc (s ++ 58 ∷ t) (58 ∷ v) r, append_assoc s (58 ∷ t) (58 ∷ (v ++ r))) (number-first u f s (58 ∷ (t ++ 58 ∷ (v ++ r))) g)

offset-first : {o : ℕ} (u : ℕ → Bool) → ((c : ℕ) → is_digit c ≡ true → u c ≡ false) → u 43 ≡ false → u 45 ≡ false → (w r : List ℕ) → Offset w o → Stops u (w ++ r)
offset-first u f p m w r (west unsigned g) = clock-first u f w r g
offset-first u f p m w r (west positive g) = p
offset-first u f p m w r (east negative g) = m

-- a digit is no byte outside 48 to 57
not_digit : (m : ℕ) → is_digit m ≡ false → (c : ℕ) → is_digit c ≡ true → eqb c m ≡ false
not_digit m h c e = by-test (eqb c m) (λ p. let q = eqb-true c m p in clash (is_digit c) e (rw q h)) (λ p. p)

-- a sign with a clock behind it
sign-gives : {k hi t : ℕ} {minus : Bool} (a w r : List ℕ) → Sign a minus → Clock k hi w t → sign (a ++ (w ++ r)) ≡ some (minus, w ++ r)
unfolding sign
sign-gives a w r unsigned g =
    rw (has_no 45 (w ++ r) (clock-first (λ x. eqb x 45) (not_digit 45 refl) w r g), has_no 43 (w ++ r) (clock-first (λ x. eqb x 43) (not_digit 43 refl) w r g))
sign-gives a w r positive g = refl
sign-gives a w r negative g = refl

signed_gives : (value : Bool → ℕ → ℕ) {k hi t : ℕ} {minus : Bool} (a w r : List ℕ) → Sign a minus → Clock k hi w t → Free r → signed_clock value k hi (a ++ w ++ r) ≡ some (value minus t, r)
unfolding signed_clock
signed_gives value a w r x g h = rw (append_assoc a w r, sign-gives a w r x g, clock-gives w r g h)

offset-gives : {o : ℕ} (w r : List ℕ) → Offset w o → Free r → offset (w ++ r) ≡ some (o, r)
unfolding offset
offset-gives w r (west {a = a} {s = s} x g) h = signed_gives offset_by a s r x g h
offset-gives w r (east {a = a} {s = s} x g) h = signed_gives offset_by a s r x g h

time-gives : {version t : ℕ} (w r : List ℕ) → TimeText version w t → Free r → rule_time version (w ++ r) ≡ some (t, r)
unfolding rule_time signed_time
time-gives {version} w r (posix n g) h = rw (ne_eqb version 51 n, clock-gives w r g h)
time-gives {version} w r (later {a = a} {s = s} e x g) h = rw (eq-eqb version 51 e) (signed_gives time_by a s r x g h)
time-gives {version} w r (earlier {a = a} {s = s} e x g) h = rw (eq-eqb version 51 e) (signed_gives time_by a s r x g h)

date-gives : {d : Day} (w r : List ℕ) → DateText w d → Stops is_digit r → day_text (w ++ r) ≡ some (d, r)
unfolding day_text month_text Ends
date-gives w r (date_j {s = s} g) h = rw (number-gives s r g (inl h))
date-gives w r (date_n g) h =
    rw (has_no 77 (w ++ r) (number-first (λ x. eqb x 77) (not_digit 77 refl) w r g), has_no 74 (w ++ r) (number-first (λ x. eqb x 74) (not_digit 74 refl) w r g), number-gives w r g (inl h))
date-gives w r (date_m {s = s} {t = t} {u = u} g i j) h =
    rw (
      append_assoc (s ++ 46 ∷ t) (46 ∷ u) r,
      append_assoc s (46 ∷ t) (46 ∷ (u ++ r)),
      number-gives s (46 ∷ (t ++ 46 ∷ (u ++ r))) g (inl refl),
      one-gives t (46 ∷ (u ++ r)) i,
      one-gives u r j,
    )

-- behind a rule the text ends, or a comma follows
data Comma : List ℕ → Type 0 where
  end : Comma []
  comma : (s : List ℕ) → Comma (44 ∷ s)

rule-gives : {version : ℕ} {x : ChangeRule} (w r : List ℕ) → RuleText version w x → Comma r → change_rule_text version (w ++ r) ≡ some (x, r)
unfolding change_rule_text
rule-gives w r (untimed g) end = rw (date-gives w [] g tt)
rule-gives w r (untimed g) (comma s) = rw (date-gives w (44 ∷ s) g refl)
rule-gives w r (timed {s = s} {t = t} g i) end = rw (append_assoc s (47 ∷ t) [], date-gives s (47 ∷ (t ++ [])) g refl, time-gives t [] i tt)
rule-gives w r (timed {s = s} {t = t} g i) (comma q) = rw (append_assoc s (47 ∷ t) (44 ∷ q), date-gives s (47 ∷ (t ++ 44 ∷ q)) g refl, time-gives t (44 ∷ q) i refl)

-- ---- footers

rule-last : {version : ℕ} {x : ChangeRule} (w : List ℕ) → RuleText version w x → change_rule_text version w ≡ some (x, [])
rule-last w g = rw append-nil at (rule-gives w [] g end)

-- behind the daylight offset and its comma: both rules
rules-give : {version : ℕ} {start end : ChangeRule} (x y : List ℕ) (std dst : ℕ) → RuleText version x start → RuleText version y end →
    after (change_rule_text version (x ++ 44 ∷ y)) (λ start. byte 44 >>= λ _. change_rule_text version >>= λ end. at_end >>= λ done. only done (rules std dst start end)) ≡ some (rules std dst start end, [])
rules-give x y std dst g h = rw (rule-gives x (44 ∷ y) g (comma y), rule-last y h)

-- an offset begins with no letter and no comma
digit-no-letter : (c : ℕ) → is_digit c ≡ true → is_letter c ≡ false
digit-no-letter c e =
    by-test (is_letter c) (λ p. absurd (omega (arith, letter-above (letter-of c p), (in_bounds 48 57 c e).1))) (λ p. p)

offset-no-letter : {o : ℕ} (w r : List ℕ) → Offset w o → Stops is_letter (w ++ r)
offset-no-letter w r g = offset-first is_letter digit-no-letter refl refl w r g

ahead-gives : {version : ℕ} {start end : ChangeRule} (std : ℕ) {dst : ℕ} (b t x y : List ℕ) → Name b → DaylightText std t dst → RuleText version x start → RuleText version y end →
    daylight_text version std (b ++ (t ++ 44 ∷ (x ++ 44 ∷ y))) ≡ some (rules std dst start end, [])
unfolding daylight_text
ahead-gives std b t x y n hour g h = rw (name-gives b (44 ∷ (x ++ 44 ∷ y)) n refl) (rules-give x y std (std + 3600) g h)
ahead-gives {version} std {dst} b t x y n (written o) g h =
    let z : List ℕ = 44 ∷ (x ++ 44 ∷ y) in
    rw (name-gives b (t ++ z) n (offset-no-letter t z o), has_no 44 (t ++ z) (offset-first (λ c. eqb c 44) (not_digit 44 refl) refl refl t z o), offset-gives t z o refl)
    (rules-give x y std dst g h)

-- a name begins with no digit and no colon
letter-free : (c : ℕ) → Letter c → is_in 48 58 c ≡ false
letter-free c l = by-test (is_in 48 58 c) (λ e. absurd (omega (arith, letter-above l, (in_bounds 48 58 c e).1))) (λ e. e)

name_free : (b r : List ℕ) → Name b → Free (b ++ r)
name_free b r (bare p) = word_first (is_in 48 58) letter-free b r p
name_free b r (quoted p) = refl

name-more : (b r : List ℕ) → Name b → at_end (b ++ r) ≡ some (false, b ++ r)
name-more b r (bare (three p q x)) = refl
name-more b r (bare (longer p q)) = refl
name-more b r (quoted p) = refl

-- a text that is read is not empty
from-text : (version : ℕ) (s : List ℕ) (f : Footer) → footer_text version s ≡ some (f, []) → footer_of version s ≡ some f
unfolding footer_of footer_text name spanned
from-text version [] f e = absurd (none-ne-some (f, []) e)
from-text version (c ∷ s) f e = ap parsed e

standard-gives : {std : ℕ} (version : ℕ) (a s : List ℕ) → Name a → Offset s std → footer_text version (a ++ s) ≡ some (fixed std, [])
unfolding footer_text
standard-gives version a s n o =
    rw (name-gives a s n (rw append-nil at (offset-no-letter s [] o)), rw append-nil at (offset-gives s [] o tt))

daylight-gives : {version std dst : ℕ} {start end : ChangeRule} (a s b t x y : List ℕ) → Name a → Offset s std → Name b → DaylightText std t dst → RuleText version x start → RuleText version y end →
    footer_text version (a ++ s ++ b ++ t ++ 44 ∷ x ++ 44 ∷ y) ≡ some (rules std dst start end, [])
unfolding footer_text
daylight-gives {version} {std} a s b t x y n o m d g h =
    let z = b ++ (t ++ 44 ∷ (x ++ 44 ∷ y)) in
    let e : a ++ s ++ b ++ t ++ 44 ∷ x ++ 44 ∷ y ≡ a ++ (s ++ z) = simp append_assoc in
    rw (e, name-gives a (s ++ z) n (offset-no-letter s z o), offset-gives s z o (name_free b (t ++ 44 ∷ (x ++ 44 ∷ y)) m), name-more b (t ++ 44 ∷ (x ++ 44 ∷ y)) m)
    (ahead-gives std b t x y m d g h)

-- where the grammar derives a text with a value, `footer_of` gives it
pub tz-complete : (version : ℕ) (s : List ℕ) (f : Footer) → TzString version s f → footer_of version s ≡ some f
unfolding footer_of
tz-complete version s f TzString.nothing = refl
tz-complete version s f (standard {a = a} {s = o} n g) = from-text version (a ++ o) f (standard-gives version a o n g)
tz-complete version s f (daylight {a = a} {s = o} {b = b} {t = t} {x = x} {y = y} n g m d i j) =
    from-text version (a ++ o ++ b ++ t ++ 44 ∷ x ++ 44 ∷ y) f (daylight-gives a o b t x y n g m d i j)

-- so a text has one value at most, and none exactly where the grammar derives nothing of it
pub tz-one : (version : ℕ) (s : List ℕ) (f g : Footer) → TzString version s f → TzString version s g → f ≡ g
tz-one version s f g p q = some-injective f g (sym (tz-complete version s f p) ∙ tz-complete version s g q)

pub none-underived : (version : ℕ) (s : List ℕ) → footer_of version s ≡ none → (f : Footer) → ¬ TzString version s f
none-underived version s e f p = none-ne-some f (sym e ∙ tz-complete version s f p)

pub underived-none : (version : ℕ) (s : List ℕ) → ((f : Footer) → ¬ TzString version s f) → footer_of version s ≡ none
underived-none version s h = go (footer_of version s) refl
  where
    go : (o : Option Footer) → footer_of version s ≡ o → o ≡ none
    go none e = refl
    go (some f) e = absurd (h f (tz-sound version s f e))

-- ---- what version 2 takes, version 3 reads alike

number-wider : {s : List ℕ} {h : ℕ} → Number 2 0 most_hours s h → Number 3 0 most_rule_hours s h
number-wider (number d h l u) = number d (omega arith) l (omega arith)

clock-wider : {s : List ℕ} {t : ℕ} → Clock 2 most_hours s t → Clock 3 most_rule_hours s t
clock-wider (hours g) = hours (number-wider g)
clock-wider (minutes g h) = minutes (number-wider g) h
clock-wider (seconds g h k) = seconds (number-wider g) h k

time-wider : {s : List ℕ} {t : ℕ} → TimeText (code "2") s t → TimeText (code "3") s t
time-wider (posix n g) = later refl unsigned (clock-wider g)
time-wider (later e x g) = absurd (omega (arith, e))
time-wider (earlier e x g) = absurd (omega (arith, e))

rule-wider : {s : List ℕ} {r : ChangeRule} → RuleText (code "2") s r → RuleText (code "3") s r
rule-wider (untimed g) = untimed g
rule-wider (timed g h) = timed g (time-wider h)

text-wider : {s : List ℕ} {f : Footer} → TzString (code "2") s f → TzString (code "3") s f
text-wider TzString.nothing = TzString.nothing
text-wider (standard n g) = standard n g
text-wider (daylight n g m d i j) = daylight n g m d (rule-wider i) (rule-wider j)

pub version-3-reads-alike : (s : List ℕ) (f : Footer) → footer_of (code "2") s ≡ some f → footer_of (code "3") s ≡ some f
version-3-reads-alike s f e = tz-complete (code "3") s f (text-wider (tz-sound (code "2") s f e))
