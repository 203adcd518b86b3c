-- The zone of a record: what each end of the search answers.
use mathlib.Core.Path.{◌≡◌, refl, sym, ap, ◌∙◌}
use mathlib.Core.Bool.{Bool, true, false}
use mathlib.Core.Option.{Option, none, some}
use mathlib.Core.List.{List}
use Prim.Native.Nat.{ℕ, ◌≤◌, ◌<◌}
use Rattle.std.specs.Prelude.{Some, None, Ok, Err}
use Rattle.std.specs.Prelude as std
use native.Mathlib.Omega.{arith}
use lib.Dec.{eqb}
use lib.ListN.{length, take, drop, get_elem?, length-drop}
use lib.Seq.{length-take-le}
use borrow.Author.Tests.{eq-eqb, ne_eqb}
use Rattle.laws_base.specs.Test.{by-test, clash}
use Rattle.model.specs.Answer.{Answer, gives, refuses, ◌>>=◌, or_refuse}
use Rattle.model.specs.Pack.{Named, pack_of, find}
use Rattle.model.specs.Tzif as model
use Rattle.model.specs.Book.{last_default}
use Rattle.model.specs.Book as books
use Rattle.model.specs.Build.{lookup, default_zone, rule_zone, zone_used}
use Rattle.big_endian.specs.Maybe.{is_some, or_empty}
use Rattle.zone_pack.specs.Pack.{zone_file, IsZone}
use Rattle.zone_pack.specs.declared.Found as zp
use Rattle.book.specs.declared.Entry.{Entry}
use Rattle.book.specs.Meaning.{records_of, body_in, meaning, NameIn, IsEntry}
use Rattle.book.proofs.Tally.{elem_at, elem_past}
use Rattle.zone.specs.declared.Zone.{Zone}
use Rattle.std.proofs.lemmas.Option.{MatchOption-at_some}
use Rattle.zone.specs.Zones.{zone_is, zone_read, ZoneOk}
use Rattle.build.specs.declared.Opened.{Opened}
use Rattle.build.specs.declared.LastLookup.{LastLookup}
use Rattle.refusal.specs.declared.Refusal.TheVariants.{UnknownZone, ZoneUnusable}
use Rattle.build.specs.Read.{SameName, Names, LooksUp, lookup_after, files_of, zone_meant, OpenedWell, IsUtc, AnswersNamed, AnswersDefault}

pub is_none : {A : Type 0} (o : Option A) → is_some o ≡ false → o ≡ none
is_none none e = refl
is_none (some a) e = clash true refl e

pub is-some : {A : Type 0} (o : Option (List A)) → is_some o ≡ true → o ≡ some (or_empty o)
is-some none e = clash false e refl
is-some (some l) e = refl

-- ---- a name in the pack

module _ (b p : List ℕ) (e : Entry) (ok : is_some (pack_of p) ≡ true) {nm : List ℕ} (en : nm ≡ take e.letters (drop e.name b)) where
  find-is : find (take e.letters (drop e.name b)) (files_of p) ≡ zone_file p nm
  unfolding zone_file
  find-is = rw (← en) (sym (rw (is-some (pack_of p) ok)))

  pub no-zone : zone_file p nm ≡ none → AnswersNamed b p e (Err (record { refusal = UnknownZone; place = e.place }))
  unfolding lookup meaning
  no-zone q = record { means = rw (find-is, q); fits = tt }

  module _ {r : zp.Found} (is : IsZone p nm r) (zr : std.Option Zone) (ez : zone_read r.file.now zr ≡ model.zone_of r.file.now) where
    file-is : find (take e.letters (drop e.name b)) (files_of p) ≡ some r.file.now
    file-is = find-is ∙ is.file

    pub no-use : zr ≡ None → AnswersNamed b p e (Err (record { refusal = ZoneUnusable; place = e.place }))
    unfolding lookup meaning
    no-use u = record { means = rw (file-is, ← ez, u); fits = tt }

    pub is_found : {z : Zone} {n : ℕ} → zr ≡ Some z → n ≡ length r.file.now → std.IfSome zr (ZoneOk r.file.now) →
        AnswersNamed b p e (Ok (record { at = r.at; len = n; zone = z }))
    unfolding lookup meaning
    is_found {z} {n} u l f =
        let part : take n (drop r.at p) ≡ r.file.now = rw l (sym is.part) in
        record { means = rw (file-is, ← ez, u) (ap (λ (y : List ℕ). gives (zone_is y z)) part); fits = rw part (MatchOption-at_some _ _ _ u f) }

-- ---- the default zone

module _ (b p : List ℕ) (i : ℕ) {n : ℕ} (ei : get_elem? (records_of b) i ≡ last_default none (records_of b)) (en : n ≡ length (records_of b)) where
  pub default-named : i < n → {e : Entry} → IsEntry b i e → {a : Answer model.Zone} → a ≡ lookup (files_of p) (meaning b e) →
      a ≡ default_zone (files_of p) (last_default none (records_of b))
  default-named h is q = let k : i < length (records_of b) = omega arith in rw (← ei, elem_at (records_of b) i k, ← is.means) q

  pub default-utc : n ≤ i → {o : Opened} → IsUtc p o → AnswersDefault b p (Ok o)
  default-utc h u = let k : length (records_of b) ≤ i = omega arith in record { means = rw (← ei, elem_past (records_of b) i k) (ap gives u.means); fits = u.opened }

-- ---- the zone that a record uses

module _ (b p : List ℕ) (e : Entry) (z : model.Zone) where
  pub used-default : e.kind ≡ 0 → gives z ≡ zone_used (files_of p) z (meaning b e) (body_in b e)
  used-default q = rw q

  used-rule : (e.kind ≡ 0 → ⊥) → zone_used (files_of p) z (meaning b e) (body_in b e) ≡ rule_zone (files_of p) z (meaning b e)
  used-rule n =
      by-test (eqb e.kind 1)
      (λ q₁. rw (ne_eqb e.kind 0 n, q₁))
      (λ q₁. by-test (eqb e.kind 2)
      (λ q₂. rw (ne_eqb e.kind 0 n, q₁, q₂))
      (λ q₂. rw (ne_eqb e.kind 0 n, q₁, q₂)))

  module _ (h : NameIn b e) (n : e.kind ≡ 0 → ⊥) where
    name-length : length (meaning b e).name ≡ e.letters
    unfolding meaning
    name-length = length-take-le e.letters (drop e.name b) (omega (arith, length-drop e.name b))

    pub used-own : e.letters ≡ 0 → gives z ≡ zone_used (files_of p) z (meaning b e) (body_in b e)
    used-own q = sym (used-rule n ∙ rw (name-length, q))

    pub used-named : (e.letters ≡ 0 → ⊥) → {a : Answer model.Zone} → a ≡ lookup (files_of p) (meaning b e) → a ≡ zone_used (files_of p) z (meaning b e) (body_in b e)
    used-named k q = q ∙ sym (used-rule n ∙ rw (name-length, ne_eqb e.letters 0 k))

    used-look : (e.letters ≡ 0 → ⊥) → zone_used (files_of p) z (meaning b e) (body_in b e) ≡ lookup (files_of p) (meaning b e)
    used-look k = used-rule n ∙ rw (name-length, ne_eqb e.letters 0 k)

name-is : (b : List ℕ) (e : Entry) → take e.letters (drop e.name b) ≡ (meaning b e).name
unfolding meaning
name-is b e = refl

-- a refusal gives nothing
other : {A : Type 0} {n k : ℕ} {z : A} {P : Type 0} → ◌≡◌ {A = Answer A} (refuses n k) (gives z) → P
other {A} h = clash false (ap is-given h) refl
  where
    is-given : Answer A → Bool
    is-given (gives a) = true
    is-given (refuses n k) = false

-- ---- a zone that is known

lookup-name : (l : List Named) (e g : books.Entry) (z : model.Zone) → lookup l e ≡ gives z → g.name ≡ e.name → lookup l g ≡ gives z
unfolding lookup
lookup-name l e g z q n = rw n (found-file (find e.name l) q)
  where
    found-zone : (o : Option model.Zone) → or_refuse 5 e.place o ≡ gives z → or_refuse 5 g.place o ≡ gives z
    found-zone none h = other h
    found-zone (some y) h = h

    found-file : (o : Option (List ℕ)) → (or_refuse 4 e.place o >>= λ f. or_refuse 5 e.place (model.zone_of f)) ≡ gives z → (or_refuse 4 g.place o >>= λ f. or_refuse 5 g.place (model.zone_of f)) ≡ gives z
    found-file none h = other h
    found-file (some f) h = found-zone (model.zone_of f) h

module _ (b p : List ℕ) (e : Entry) where
  pub known-named : {k : LastLookup} → Names b p k → SameName b e k → AnswersNamed b p e (Ok k.zone)
  unfolding meaning
  known-named n s = record { means = sym (n.means (meaning b e) s); fits = n.opened }

  pub knows_after : (k : std.Option LastLookup) → LooksUp b p k → (z : model.Zone) (o : Opened) → NameIn b e → gives (zone_meant p o) ≡ zone_used (files_of p) z (meaning b e) (body_in b e) → OpenedWell p o → LooksUp b p (lookup_after e o k)
  knows_after k w z o h q f =
      by-test (eqb e.kind 0)
      (λ t. rw t w)
      (λ t. by-test (eqb e.letters 0)
      (λ u. rw (t, u) w)
      (λ u.
      let n : (e.kind ≡ 0 → ⊥) = λ x. clash false (sym t ∙ eq-eqb e.kind 0 x) refl in
      let m : (e.letters ≡ 0 → ⊥) = λ x. clash false (sym u ∙ eq-eqb e.letters 0 x) refl in
      let known : Names b p (record { name = e.name; letters = e.letters; zone = o }) = record {
        means = λ g s. lookup-name (files_of p) (meaning b e) g (zone_meant p o) (sym (q ∙ used-look b p e z h n m)) (s ∙ name-is b e);
        opened = f;
      } in
      rw (t, u) known))

module _ (e : Entry) (o : Opened) (k : std.Option LastLookup) where
  pub after-default : e.kind ≡ 0 → k ≡ lookup_after e o k
  after-default q = rw (eq-eqb e.kind 0 q)

  module _ (n : e.kind ≡ 0 → ⊥) where
    pub after-own : e.letters ≡ 0 → k ≡ lookup_after e o k
    after-own q = rw (ne_eqb e.kind 0 n, eq-eqb e.letters 0 q)

    pub after-named : (e.letters ≡ 0 → ⊥) → Some (record { name = e.name; letters = e.letters; zone = o }) ≡ lookup_after e o k
    after-named m = rw (ne_eqb e.kind 0 n, ne_eqb e.letters 0 m)
