-- Each text that `footer_of` accepts is a TZ string of the grammar, and has its value.
use Rattle.std.specs.Prelude.{◌≡◌, refl, Bool, true, false, ◌||◌, List, [], ◌∷◌, ◌++◌, ℕ, zero, suc, ◌+◌, ◌*◌, ◌-◌, ◌≤◌, leb, eqb, length}
use Rattle.std.proofs.Common.{sym, ap, ◌∙◌, append-nil, append_assoc, zero-add, zero-mul, arith, length-append, leb-true, eqb-true}
use Rattle.std.proofs.Math.Option.{Option, none, some, none-ne-some, some-injective}
use Prim.Native.Char.{code}
use Rattle.std.proofs.lemmas.Bool.{eqb-false}
use Rattle.model.specs.Basic.{is_in, all}
use Rattle.model.specs.Footer as F
use Rattle.model.specs.Footer.{ChangeRule, Footer, fixed, rules, Parser, after, ◌>>=◌, pure, only, has, byte, at_end, is_digit, is_letter, spanned, digits, is_name_byte, name, sign, clock, signed_clock, offset_by, offset, time_by, most_hours, most_rule_hours, signed_time, rule_time, month_text, day_text, change_rule_text, daylight_text, footer_text, parsed, footer_of}
use Rattle.laws_base.specs.Test.{by-test, by-either, or-true, clash, in_bounds, all_head}
use Rattle.laws_bytes.specs.TzGrammar.{Decimal, more, Number, number, Sixty, sixty, Clock, hours, minutes, seconds, Letter, upper, lower, Quoted, letter, plus, minus, Word, three, longer, Name, bare, quoted, Sign, unsigned, positive, negative, Offset, west, east, DateText, date_j, date_n, date_m, TimeText, posix, later, earlier, RuleText, untimed, timed, hour, written, TzString, standard, daylight}

-- the parser's answer to the text s: none, or the value of the front of it, and the rest
data Reads {A : Type 0} (G : List ℕ → A → Type 0) (s : List ℕ) : Option (A × List ℕ) → Type 0 where
  fails : Reads G s none
  reads : {a : A} (w r : List ℕ) → s ≡ w ++ r → G w a → Reads G s (some (a, r))

-- one parser behind another
step : {A B : Type 0} {G : List ℕ → A → Type 0} {H : List ℕ → B → Type 0} {f : A → Parser B} {s t : List ℕ} (o : Option (A × List ℕ)) →
    Reads G t o → ((a : A) (w r : List ℕ) → t ≡ w ++ r → G w a → Reads H s (f a r)) → Reads H s (after o f)
step none h k = fails
step (some x) (reads w r e g) k = k x.0 w r e g

-- with the byte c in front or without
marked : {B : Type 0} {H : List ℕ → B → Type 0} {s : List ℕ} (c : ℕ) (t : List ℕ) (f : Bool → Parser B) →
    ((r : List ℕ) → t ≡ c ∷ r → Reads H s (f true r)) → Reads H s (f false t) → Reads H s (after (has c t) f)
marked c [] f h k = k
marked c (x ∷ t) f h k =
    by-test (eqb x c) (λ e. rw e (h t (ap (λ (y : ℕ). y ∷ t) (eqb-true x c e)))) (λ e. rw e k)

-- with the byte c in front only
needs : {B : Type 0} {H : List ℕ → B → Type 0} {s : List ℕ} (c : ℕ) (t : List ℕ) (f : Bool → Parser B) →
    ((r : List ℕ) → t ≡ c ∷ r → Reads H s (f true r)) → Reads H s (after (byte c t) f)
needs c [] f h = fails
needs c (x ∷ t) f h =
    by-test (eqb x c) (λ e. rw e (h t (ap (λ (y : ℕ). y ∷ t) (eqb-true x c e)))) (λ e. rw e fails)

-- ---- numbers

-- with a byte more in front
with_byte : {A : Type 0} {G H : List ℕ → A → Type 0} {s : List ℕ} (c : ℕ) (o : Option (A × List ℕ)) →
    Reads G s o → ((w : List ℕ) (a : A) → G w a → H (c ∷ w) a) → Reads H (c ∷ s) o
with_byte c none h k = fails
with_byte c (some x) (reads w r e g) k = reads (c ∷ w) r (ap (λ (l : List ℕ). c ∷ l) e) (k w x.0 g)

-- at most k digits behind the number p
abbrev Behind : ℕ → List ℕ → List ℕ → ℕ → Type 0
Behind k p w n = Decimal (p ++ w) n × (length w ≤ k)

behind-none : (k v : ℕ) (p s : List ℕ) → Decimal p v → Reads (Behind k p) s (some (v, s))
behind-none k v p s d = reads {a = v} [] s refl (rw append-nil d, omega arith)

-- a digit more, and a digit alone
one_more : (c v : ℕ) (p : List ℕ) → is_digit c ≡ true → Decimal p v → Decimal (p ++ c ∷ []) (v * 10 + (c - 48))
one_more c v p e d =
    let b = in_bounds 48 57 c e in
    let q : 48 + (c - 48) ≡ c = omega arith in
    rw q at (more d (c - 48) (omega arith))

one-digit : (c : ℕ) → is_digit c ≡ true → Decimal (c ∷ []) (c - 48)
one-digit c e =
    let b = in_bounds 48 57 c e in
    let q : 48 + (c - 48) ≡ c = omega arith in
    rw q at (Decimal.digit (c - 48) (omega arith))

digits-read : (k v : ℕ) (s p : List ℕ) → Decimal p v → Reads (Behind k p) s (digits k v s)
unfolding digits
digits-read zero v s p d = behind-none zero v p s d
digits-read (suc k) v [] p d = behind-none (suc k) v p [] d
digits-read (suc k) v (c ∷ s) p d =
    by-test (is_digit c)
    (λ e. rw e (with_byte c _ (digits-read k (v * 10 + (c - 48)) s (p ++ c ∷ []) (one_more c v p e d))
    (λ w n g. (rw append_assoc at g.0, omega (arith, g.1)))))
    (λ e. rw e (behind-none (suc k) v p (c ∷ s) d))

number_read : (k lo hi : ℕ) (s : List ℕ) → Reads (Number (suc k) lo hi) s (F.number (suc k) lo hi s)
unfolding F.number digits
number_read k lo hi [] = fails
number_read k lo hi (c ∷ s) =
    by-test (is_digit c)
    (λ e. rw e (step _ (digits-read k (0 * 10 + (c - 48)) s (c ∷ []) (rw (zero-mul, zero-add) (one-digit c e))) (λ n w r p g.
    tested lo hi n (c ∷ w) r (ap (λ (l : List ℕ). c ∷ l) p) g.0 (omega (arith, g.1)))))
    (λ e. rw e fails)
  where
    tested : (lo hi n : ℕ) (w r : List ℕ) → c ∷ s ≡ w ++ r → Decimal w n → length w ≤ suc k → Reads (Number (suc k) lo hi) (c ∷ s) (only (is_in lo hi n) n r)
    tested lo hi n w r p d h =
        by-test (is_in lo hi n)
        (λ e. let b = in_bounds lo hi n e in rw e (reads w r p (number d h b.0 b.1)))
        (λ e. rw e fails)

-- two pieces of a text, one behind the other
join : {s r : List ℕ} (w v t : List ℕ) → s ≡ w ++ r → r ≡ v ++ t → s ≡ w ++ v ++ t
join w v t e f = e ∙ ap (λ (l : List ℕ). w ++ l) f ∙ sym (append_assoc w v t)

-- the same with the byte c between them
join_by : {s r q : List ℕ} (c : ℕ) (w v t : List ℕ) → s ≡ w ++ r → r ≡ c ∷ q → q ≡ v ++ t → s ≡ w ++ c ∷ v ++ t
join_by c w v t e m f = join w (c ∷ v) t e (m ∙ ap (λ (l : List ℕ). c ∷ l) f)

pub some-digit : {s : List ℕ} {n : ℕ} → Decimal s n → 1 ≤ length s
some-digit (Decimal.digit d h) = omega arith
some-digit (more {s = s} n d h) = omega (arith, length-append s ((48 + d) ∷ []))

-- a number of one digit
pub single : {s : List ℕ} {n : ℕ} → Decimal s n → length s ≤ 1 → (s ≡ (48 + n) ∷ []) × (n ≤ 9)
single (Decimal.digit d h) k = (refl, h)
single (more {s = s} n d h) k = absurd (omega (arith, length-append s ((48 + d) ∷ []), some-digit n))

two_digits : {s t : List ℕ} {a b : ℕ} → Number 1 0 5 s a → Number 1 0 9 t b → Sixty (s ++ t) (a * 10 + b)
two_digits {s} {t} {a} {b} (number d h _ u) (number e k _ v) =
    let f = single d h in
    let g = single e k in
    rw g.0 (sixty (more d b v) (length-append s ((48 + b) ∷ []) ∙ ap (λ (l : List ℕ). length l + 1) f.0) (omega arith))

sixty-read : (s : List ℕ) → Reads Sixty s (F.sixty s)
unfolding F.sixty
sixty-read s =
    step (F.number 1 0 5 s) (number_read 0 0 5 s) (λ a w r e g.
    step (F.number 1 0 9 r) (number_read 0 0 9 r) (λ b v t f h.
    reads (w ++ v) t (join w v t e f) (two_digits g h)))

clock-read : (k hi : ℕ) (s : List ℕ) → Reads (Clock (suc k) hi) s (clock (suc k) hi s)
unfolding clock
clock-read k hi s =
    step (F.number (suc k) 0 hi s) (number_read k 0 hi s) (λ h w r e g.
    marked 58 r _
    (λ q m. step (F.sixty q) (sixty-read q) (λ n v t f o.
    marked 58 t _
    (λ p l. step (F.sixty p) (sixty-read p) (λ x u z i j.
    reads (w ++ 58 ∷ v ++ 58 ∷ u) z (join_by 58 (w ++ 58 ∷ v) u z (join_by 58 w v t e m f) l i) (seconds g o j)))
    (reads (w ++ 58 ∷ v) t (join_by 58 w v t e m f) (minutes g o))))
    (reads w r e (hours g)))

-- ---- names

pub letter-of : (c : ℕ) → is_letter c ≡ true → Letter c
letter-of c e =
    by-either
    (λ (p : is_in 65 90 c ≡ true). let b = in_bounds 65 90 c p in upper b.0 b.1)
    (λ (p : is_in 97 122 c ≡ true). let b = in_bounds 97 122 c p in lower b.0 b.1)
    (or-true (is_in 65 90 c) (is_in 97 122 c) e)

bare-byte : (c : ℕ) → is_name_byte false c ≡ true → Letter c
unfolding is_name_byte
bare-byte c e = by-either (λ (p : is_letter c ≡ true). letter-of c p) (λ (p : false ≡ true). clash false p refl) (or-true (is_letter c) false e)

quoted-byte : (c : ℕ) → is_name_byte true c ≡ true → Quoted c
unfolding is_name_byte
quoted-byte c e =
    by-either
    (λ (p : is_letter c ≡ true). letter (letter-of c p))
    (λ (p : (is_digit c || (eqb c 43 || eqb c 45)) ≡ true).
    by-either
    (λ (q : is_digit c ≡ true). let b = in_bounds 48 57 c q in Quoted.digit b.0 b.1)
    (λ (q : (eqb c 43 || eqb c 45) ≡ true).
    by-either
    (λ (x : eqb c 43 ≡ true). rw (eqb-true c 43 x) plus)
    (λ (x : eqb c 45 ≡ true). rw (eqb-true c 45 x) minus)
    (or-true (eqb c 43) (eqb c 45) q))
    (or-true (is_digit c) (eqb c 43 || eqb c 45) p))
    (or-true (is_letter c) (is_digit c || (eqb c 43 || eqb c 45)) e)

-- the bytes at the front that pass the test t
record Passed (t : ℕ → Bool) (s : List ℕ) (n : ℕ) (r : List ℕ) : Type 0 where
  front : List ℕ
  splits : s ≡ front ++ r
  passes : all t front ≡ true
  counts : n ≡ length front

span-reads : (t : ℕ → Bool) (s : List ℕ) → Passed t s (spanned t s).0 (spanned t s).1
unfolding spanned all
span-reads t [] = record { front = []; splits = refl; passes = refl; counts = refl }
span-reads t (c ∷ s) =
    by-test (t c)
    (λ e.
    let p = span-reads t s in
    rw e (record { front = c ∷ p.front; splits = ap (λ (l : List ℕ). c ∷ l) p.splits; passes = rw e p.passes; counts = ap suc p.counts }))
    (λ e. rw e (record { front = []; splits = refl; passes = refl; counts = refl }))

word_of : {P : ℕ → Type 0} (t : ℕ → Bool) → ((c : ℕ) → t c ≡ true → P c) → (s : List ℕ) → all t s ≡ true → 3 ≤ length s → Word P s
word_of t f [] e h = absurd (omega arith)
word_of t f (a ∷ []) e h = absurd (omega arith)
word_of t f (a ∷ b ∷ []) e h = absurd (omega arith)
word_of t f (a ∷ b ∷ c ∷ []) e h =
    let p = all_head t a (b ∷ c ∷ []) e in
    let q = all_head t b (c ∷ []) p.1 in
    three (f a p.0) (f b q.0) (f c (all_head t c [] q.1).0)
word_of t f (a ∷ b ∷ c ∷ d ∷ s) e h =
    let p = all_head t a (b ∷ c ∷ d ∷ s) e in
    longer (f a p.0) (word_of t f (b ∷ c ∷ d ∷ s) p.1 (omega arith))

Named : List ℕ → Bool → Type 0
Named s x = Name s

-- the bytes at the front that pass, three or more
front-word : {P : ℕ → Type 0} (t : ℕ → Bool) → ((c : ℕ) → t c ≡ true → P c) → (s : List ℕ) → leb 3 (spanned t s).0 ≡ true →
    (w : List ℕ) × (s ≡ w ++ (spanned t s).1) × Word P w
front-word t f s e =
    let p = span-reads t s in
    (p.front, p.splits, word_of t f p.front p.passes (omega (arith, leb-true 3 (spanned t s).0 e, p.counts)))

name-read : (s : List ℕ) → Reads Named s (name s)
unfolding name Named
name-read s =
    marked 60 s _
    (λ r m.
    by-test (leb 3 (spanned (is_name_byte true) r).0)
    (λ e.
    let p = front-word (is_name_byte true) quoted-byte r e in
    let i : s ≡ (60 ∷ p.0) ++ (spanned (is_name_byte true) r).1 = m ∙ ap (λ (l : List ℕ). 60 ∷ l) p.1 in
    rw e (marked 62 (spanned (is_name_byte true) r).1 (λ b. only b b)
    (λ q l. reads {a = true} (60 ∷ p.0 ++ 62 ∷ []) q (join (60 ∷ p.0) (62 ∷ []) q i l) (quoted p.2))
    fails))
    (λ e. rw e fails))
    (by-test (leb 3 (spanned (is_name_byte false) s).0)
    (λ e. let p = front-word (is_name_byte false) bare-byte s e in rw e (reads {a = true} p.0 (spanned (is_name_byte false) s).1 p.1 (bare p.2)))
    (λ e. rw e fails))

-- ---- offsets, dates and times

sign_read : (s : List ℕ) → Reads Sign s (sign s)
unfolding sign
sign_read s =
    marked 45 s _
    (λ r m. reads (45 ∷ []) r m negative)
    (marked 43 s _
    (λ r m. reads (43 ∷ []) r m positive)
    (reads [] s refl unsigned))

-- a clock behind a sign
signed-read : (G : List ℕ → ℕ → Type 0) (value : Bool → ℕ → ℕ) (k hi : ℕ) →
    ((minus : Bool) (a w : List ℕ) (t : ℕ) → Sign a minus → Clock (suc k) hi w t → G (a ++ w) (value minus t)) →
    (s : List ℕ) → Reads G s (signed_clock value (suc k) hi s)
unfolding signed_clock
signed-read G value k hi f s =
    step (sign s) (sign_read s) (λ minus a r e g.
    step (clock (suc k) hi r) (clock-read k hi r) (λ t w q d h.
    reads (a ++ w) q (join a w q e d) (f minus a w t g h)))

offset_read : (s : List ℕ) → Reads Offset s (offset s)
unfolding offset
offset_read = signed-read Offset offset_by 1 most_hours by_sign
  where
    by_sign : (minus : Bool) (a w : List ℕ) (t : ℕ) → Sign a minus → Clock 2 most_hours w t → Offset (a ++ w) (offset_by minus t)
    by_sign true a w t g h = east g h
    by_sign false a w t g h = west g h

-- the time of a change, in each version
signed-time : (version : ℕ) → version ≡ code "3" → (s : List ℕ) → Reads (TimeText version) s (signed_time s)
unfolding signed_time
signed-time version e = signed-read (TimeText version) time_by 2 most_rule_hours by_sign
  where
    by_sign : (minus : Bool) (a w : List ℕ) (t : ℕ) → Sign a minus → Clock 3 most_rule_hours w t → TimeText version (a ++ w) (time_by minus t)
    by_sign true a w t g h = earlier e g h
    by_sign false a w t g h = later e g h

time-read : (version : ℕ) (s : List ℕ) → Reads (TimeText version) s (rule_time version s)
unfolding rule_time
time-read version s =
    by-test (eqb version 51)
    (λ e. rw e (signed-time version (eqb-true version 51 e) s))
    (λ e. rw e (step (clock 2 most_hours s) (clock-read 1 most_hours s) (λ t w r d g. reads w r d (posix (eqb-false version 51 e) g))))

month-read : (s t : List ℕ) → s ≡ 77 ∷ t → Reads DateText s (month_text t)
unfolding month_text
month-read s t m =
    step (F.number 2 1 12 t) (number_read 1 1 12 t) (λ a w r e g.
    needs 46 r _ (λ q n.
    step (F.number 1 1 5 q) (number_read 0 1 5 q) (λ b v x f h.
    needs 46 x _ (λ y o.
    step (F.number 1 0 6 y) (number_read 0 0 6 y) (λ d u z i k.
    reads (77 ∷ w ++ 46 ∷ v ++ 46 ∷ u) z
    (join_by 46 (77 ∷ w ++ 46 ∷ v) u z (join_by 46 (77 ∷ w) v x (m ∙ ap (λ (l : List ℕ). 77 ∷ l) e) n f) o i)
    (date_m g h k))))))

day-read : (s : List ℕ) → Reads DateText s (day_text s)
unfolding day_text
day-read s =
    marked 77 s _
    (λ r m. month-read s r m)
    (marked 74 s _
    (λ r m. step (F.number 3 1 365 r) (number_read 2 1 365 r) (λ n w q e g. reads (74 ∷ w) q (m ∙ ap (λ (l : List ℕ). 74 ∷ l) e) (date_j g)))
    (step (F.number 3 0 365 s) (number_read 2 0 365 s) (λ n w q e g. reads w q e (date_n g))))

rule-read : (version : ℕ) (s : List ℕ) → Reads (RuleText version) s (change_rule_text version s)
unfolding change_rule_text
rule-read version s =
    step (day_text s) (day-read s) (λ d w r e g.
    marked 47 r _
    (λ q m. step (rule_time version q) (time-read version q) (λ n v t f h. reads (w ++ 47 ∷ v) t (join_by 47 w v t e m f) (timed g h)))
    (reads w r e (untimed g)))

-- ---- footers

at-end : {B : Type 0} {H : List ℕ → B → Type 0} {s : List ℕ} (t : List ℕ) (f : Bool → Parser B) →
    (t ≡ [] → Reads H s (f true [])) → Reads H s (f false t) → Reads H s (after (at_end t) f)
at-end [] f h k = h refl
at-end (c ∷ t) f h k = k

-- a footer's value; the text is read to its end
abbrev Whole : ℕ → List ℕ → List ℕ → Footer → Type 0
Whole version s w f = TzString version s f

whole : (version : ℕ) (s : List ℕ) (f : Footer) → TzString version s f → Reads (Whole version s) s (some (f, []))
whole version s f g = reads s [] (sym (append-nil s)) g

-- both rules, behind u and a comma
rules-read : (version : ℕ) (s u r : List ℕ) (std dst : ℕ) → s ≡ u ++ 44 ∷ r →
    ((x y : List ℕ) (start end : ChangeRule) → RuleText version x start → RuleText version y end → TzString version (u ++ 44 ∷ x ++ 44 ∷ y) (rules std dst start end)) →
    Reads (Whole version s) s (after (change_rule_text version r) (λ start. byte 44 >>= λ _. change_rule_text version >>= λ end. at_end >>= λ done. only done (rules std dst start end)))
rules-read version s u r std dst e k =
    step (change_rule_text version r) (rule-read version r) (λ start x q f g.
    needs 44 q _ (λ p m.
    step (change_rule_text version p) (rule-read version p) (λ end y t i h.
    at-end t _
    (λ z.
    let j : s ≡ u ++ 44 ∷ x ++ 44 ∷ y ++ t = join_by 44 (u ++ 44 ∷ x) y t (join_by 44 u x q e refl f) m i in
    whole version s (rules std dst start end) (rw (j, z, append-nil) (k x y start end g h)))
    fails)))

-- a written daylight offset and the comma behind it
written_read : (s : List ℕ) → Reads (λ w o. (t : List ℕ) × (w ≡ t ++ 44 ∷ []) × Offset t o) s ((offset >>= λ o. byte 44 >>= λ _. pure o) s)
written_read s =
    step (offset s) (offset_read s) (λ o t r e g.
    needs 44 r _ (λ q m. reads (t ++ 44 ∷ []) q (join t (44 ∷ []) q e m) (t, refl, g)))

daylight-read : (version : ℕ) (s a o t : List ℕ) (std : ℕ) → s ≡ a ++ o ++ t → Name a → Offset o std → Reads (Whole version s) s (daylight_text version std t)
unfolding daylight_text Named
daylight-read version s a o t std e g h =
    step (name t) (name-read t) (λ _ b r f k.
    let i : s ≡ a ++ o ++ b ++ r = join (a ++ o) b r e f in
    marked 44 r _
    (λ q m. rules-read version s (a ++ o ++ b) q std (std + 3600) (i ∙ ap (λ (l : List ℕ). a ++ o ++ b ++ l) m) (λ _ _ _ _ x y. rw append-nil at (daylight g h k hour x y)))
    (step _ (written_read r) (λ dst w q m p.
    rules-read version s (a ++ o ++ b ++ p.0) q std dst
    (join (a ++ o ++ b) p.0 (44 ∷ q) i (m ∙ ap (λ (l : List ℕ). l ++ q) p.1 ∙ append_assoc p.0 (44 ∷ []) q))
    (λ _ _ _ _ x y. daylight g h k (written p.2) x y))))

text-read : (version : ℕ) (s : List ℕ) → Reads (Whole version s) s (footer_text version s)
unfolding footer_text Named
text-read version s =
    step (name s) (name-read s) (λ _ a r e g.
    step (offset r) (offset_read r) (λ std o t f h.
    let i : s ≡ a ++ o ++ t = join a o t e f in
    at-end t _
    (λ z. whole version s (fixed std) (rw (i, z, append-nil) (standard g h)))
    (daylight-read version s a o t std i g h)))

value_of : (version : ℕ) (s : List ℕ) (f : Footer) (o : Option (Footer × List ℕ)) → Reads (Whole version s) s o → parsed o ≡ some f → TzString version s f
value_of version s f none h e = absurd (none-ne-some f e)
value_of version s f (some x) (reads w r p g) e = rw (some-injective _ _ e) at g

-- where `footer_of` gives a value, the grammar derives the text with it
pub tz-sound : (version : ℕ) (s : List ℕ) (f : Footer) → footer_of version s ≡ some f → TzString version s f
unfolding footer_of
tz-sound version [] f e = rw (← some-injective _ _ e) TzString.nothing
tz-sound version (c ∷ s) f e = value_of version (c ∷ s) f (footer_text version (c ∷ s)) (text-read version (c ∷ s)) e
