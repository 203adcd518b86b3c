-- Every zone of a usable file, and UTC, is sound.
use Rattle.std.specs.Prelude.{◌≡◌, true, ◌&&◌, List, [], ◌∷◌, map, ℕ, zero, suc, ◌+◌, ◌*◌, ◌≤◌, ◌<◌, leb, eqb, get_or, take, drop}
use Rattle.std.proofs.Math.Option.{some}
use Rattle.std.proofs.Common.{arith}
use Rattle.std.proofs.Math.Dec.{ltb}
use borrow.Author.Tests.{leb-true, ltb-true}
use Rattle.model.specs.Basic.{is_in, all}
use Rattle.model.specs.Bytes.{words, pieces, lifted}
use Rattle.model.specs.Footer.{Footer, empty, fixed, rules, change_in, footer_of}
use Rattle.model.specs.Tzif.{Header, version_of, header_of, size_of, offset_in, type_ok, rising, counts_ok, zero_or, Table, Zone, Change, changes_of, line_of, table_in, table_of, zone_of, most_types, most_transitions, type_size, header_size}
use Rattle.model.specs.Offset.{greatest_offset}
use Rattle.model.specs.Zone.{utc, latest, ruled_at, offset_from, offset_at, second_of}
use Rattle.laws_base.specs.Test.{by-test, and_both, in_bounds, all_head}
use Rattle.laws_base.specs.Made.{Made, value, made, made-is, next, tested, anything}
use Rattle.laws_zone.specs.Sound.{Sound, first_local}
use Rattle.laws_zone.specs.Grammar.{OffsetFits, FooterFits, footer-fits}
use Rattle.laws_zone.specs.Changes.{steady-same}
use Rattle.laws_zone.specs.Resolve.{Resolves, by-near-offset, reads-if, second-means}

-- ---- a zone whose offsets lie from -93,599 s to 93,599 s and whose changes fit is sound

abbrev pub ChangesFit : List Change → Type 0
ChangesFit [] = Unit {0}
ChangesFit (c ∷ l) = OffsetFits c.offset × ChangesFit l

pub record ZoneFits (z : Zone) : Type 0 where
  pub initial-fits : OffsetFits z.initial
  pub changes-fit : ChangesFit z.changes
  pub footer-fits : FooterFits z.footer

ruled-fits : (f : Footer) (o u : ℕ) → FooterFits f → OffsetFits o → OffsetFits (ruled_at f o u)
unfolding ruled_at
ruled-fits empty o u f h = h
ruled-fits (fixed g) o u f h = f
ruled-fits (rules std dst start end) o u f h =
    by-test (leb (latest (change_in dst end) u) (latest (change_in std start) u)) (λ e. rw e f.1) (λ e. rw e f.0)

from-fits : (o : ℕ) (l : List Change) (f : Footer) (u : ℕ) → OffsetFits o → ChangesFit l → FooterFits f → OffsetFits (offset_from o l f u)
unfolding offset_from
from-fits o [] f u h k g = ruled-fits f o u g h
from-fits o (c ∷ l) f u h k g = by-test (leb c.time u) (λ e. rw e (from-fits c.offset l f u k.0 k.1 g)) (λ e. rw e h)

module _ (z : Zone) (f : ZoneFits z) where
  pub offset-fits : (u : ℕ) → OffsetFits (offset_at z u)
  unfolding offset_at
  offset-fits u = from-fits z.initial z.changes z.footer u f.initial-fits f.changes-fit f.footer-fits

  pub second-resolves : (l : ℕ) → first_local ≤ l → Resolves (offset_at z) l (second_of z l)
  second-resolves l h = second-means z f.footer-fits (λ u. (offset-fits u).0) (λ u. (offset-fits u).1) l h

  pub fits-sound : Sound z
  fits-sound = record {
    low = λ u. (offset-fits u).0;
    high = λ u. (offset-fits u).1;
    least = λ u l h r. reads-if (offset_at z) (second-resolves l (omega arith)) r;
    some = λ l h. (let w = by-near-offset (offset_at z) (λ u. (offset-fits u).1) (second-resolves l (omega arith)) in (w.0, omega (arith, w.1), w.2));
    same = λ a b h s u p q. steady-same z f.footer-fits a b s u p q;
  }

pub utc-sound : Sound utc
utc-sound = fits-sound utc (record { initial-fits = (omega arith, omega arith); changes-fit = tt; footer-fits = tt })

-- ---- what a usable file makes fits

-- the offsets of a table are in bounds
record TableFits (t : Table) : Type 0 where
  initial-fits : OffsetFits t.initial
  changes-fit : ChangesFit t.changes

type-fits : (chars : ℕ) (t : List ℕ) → type_ok chars t ≡ true → OffsetFits (offset_in t)
unfolding type_ok
type-fits chars t h =
    let o = offset_in t in
    let a = and_both (is_in 1 greatest_offset o) (ltb (get_or t 4 0) 2 && ltb (get_or t 5 0) chars) h in
    in_bounds 1 greatest_offset o a.0

-- the offset of each type
types-fit : (chars n k : ℕ) (b : List ℕ) → all (type_ok chars) (pieces type_size n b) ≡ true → k < n → OffsetFits (get_or (map offset_in (pieces type_size n b)) k 0)
unfolding pieces
types-fit chars zero k b h i = absurd (omega arith)
types-fit chars (suc n) zero b h i = type-fits chars (take type_size b) (all_head (type_ok chars) (take type_size b) (pieces type_size n (drop type_size b)) h).0
types-fit chars (suc n) (suc k) b h i = types-fit chars n k (drop type_size b) (all_head (type_ok chars) (take type_size b) (pieces type_size n (drop type_size b)) h).1 (omega arith)

changes-fit : (n : ℕ) (offs ts ks : List ℕ) → ((k : ℕ) → k < n → OffsetFits (get_or offs k 0)) → all (λ k. ltb k n) ks ≡ true → ChangesFit (changes_of offs ts ks)
unfolding changes_of
changes-fit n offs [] ks f h = tt
changes-fit n offs (t ∷ ts) [] f h = tt
changes-fit n offs (t ∷ ts) (k ∷ ks) f h =
    let p = all_head (λ k. ltb k n) k ks h in
    (f k (ltb-true k n p.0), changes-fit n offs ts ks f p.1)

module _ (h : Header) (b : List ℕ) where
  abbrev times : List ℕ
  times = map (lifted 8) (words 8 h.times b)

  abbrev kinds : List ℕ
  kinds = take h.times (drop (h.times * 8) b)

  abbrev types : List (List ℕ)
  types = pieces type_size h.types (drop (h.times * 9) b)

  abbrev marks : List ℕ
  marks = take (h.stds + h.uts) (drop (h.times * 9 + h.types * type_size + h.chars) b)

  has-types : counts_ok h ≡ true → 1 ≤ h.types
  unfolding counts_ok
  has-types e =
      let a = and_both (is_in 1 most_types h.types) (leb h.times most_transitions && (leb 1 h.chars && (eqb h.leaps 0 && (zero_or h.types h.stds && zero_or h.types h.uts)))) e in
      leb-true _ _ (and_both (leb 1 h.types) (leb h.types most_types) a.0).0

  block-fits : Made TableFits (table_in h b)
  unfolding table_in
  block-fits =
      tested (counts_ok h) (λ _ counts.
      next (line_of (drop (size_of 8 h) b)) (anything (line_of (drop (size_of 8 h) b))) (λ line _.
      tested (rising times && (all (λ k. ltb k h.types) kinds && (all (type_ok h.chars) types && all (λ m. ltb m 2) marks))) (λ _ e.
      let ks = and_both (rising times) (all (λ k. ltb k h.types) kinds && (all (type_ok h.chars) types && all (λ m. ltb m 2) marks)) e in
      let ts = and_both (all (λ k. ltb k h.types) kinds) (all (type_ok h.chars) types && all (λ m. ltb m 2) marks) ks.1 in
      let ms = and_both (all (type_ok h.chars) types) (all (λ m. ltb m 2) marks) ts.1 in
      let fit : (k : ℕ) → k < h.types → OffsetFits (get_or (map offset_in types) k 0) = λ k i. types-fit h.chars h.types k (drop (h.times * 9) b) ms.0 i in
      value (record { initial-fits = fit 0 (has-types counts); changes-fit = changes-fit h.types (map offset_in types) times kinds fit ts.0 }))))

table_fits : (f : List ℕ) → Made TableFits (table_of f)
unfolding table_of
table_fits f =
    next (header_of f) (anything (header_of f)) (λ h _.
    next (header_of (drop (header_size + size_of 4 h) f)) (anything (header_of (drop (header_size + size_of 4 h) f))) (λ k _.
    tested (eqb h.version k.version) (λ _ _.
    block-fits k (drop header_size (drop (header_size + size_of 4 h) f)))))

file-fits : (f : List ℕ) → Made ZoneFits (zone_of f)
unfolding zone_of
file-fits f =
    next (table_of f) (table_fits f) (λ t h.
    next (footer_of (version_of f) t.line) (made (footer_of (version_of f) t.line) (footer-fits (version_of f) t.line)) (λ foot k.
    value (record { initial-fits = h.initial-fits; changes-fit = h.changes-fit; footer-fits = k })))

pub zone-fits : (f : List ℕ) (z : Zone) → zone_of f ≡ some z → ZoneFits z
zone-fits f z e = made-is (zone_of f) z (file-fits f) e

pub zone-sound : (f : List ℕ) (z : Zone) → zone_of f ≡ some z → Sound z
zone-sound f z e = fits-sound z (zone-fits f z e)
