-- What each end of `rules_of` answers.
use mathlib.Core.Path.{◌≡◌, sym, ◌∙◌}
use mathlib.Core.Bool.{Bool, true, false}
use mathlib.Core.Option.{none, some}
use mathlib.Core.List.{List}
use Prim.Native.Nat.{ℕ}
use Rattle.std.specs.Prelude.{Result, Ok, Err}
use Rattle.laws_skip.specs.Books.{rules-well}
use Rattle.model.specs.Answer.{refuses, ◌>>=◌}
use Rattle.model.specs.Pack.{pack_of}
use Rattle.model.specs.Book.{entries_of, within_limits, last_default}
use Rattle.model.specs.Build.{default_zone, rules_of}
use Rattle.big_endian.specs.Maybe.{is_some}
use Rattle.book.specs.Meaning.{records_of}
use Rattle.book.specs.Accepts.{is_book}
use Rattle.rule.specs.declared.Schedule.{Schedule}
use Rattle.rule.specs.Rules.{schedule_is}
use Rattle.build.specs.declared.Opened.{Opened}
use Rattle.refusal.specs.declared.Refused.{Refused}
use Rattle.refusal.specs.declared.Refusal.TheVariants.{BookLayout, BookLimit, PackLayout}
use Rattle.refusal.specs.Refused.{number_of, at_0}
use Rattle.build.specs.Read.{files_of, zone_meant, ReadsBook, AnswersDefault, AnswersRules, rules_read}
use Rattle.build.proofs.Lookups.{is_none, is-some}

module _ (b p : List ℕ) where
  no_answer : {x : Refused} → rules_read b p ≡ refuses (number_of x.refusal) x.place → AnswersRules b p (Err x)
  no_answer e = record { means = sym e; fits = tt }

  pub no-book : {r : Bool} → r ≡ is_book b → r ≡ false → {x : Refused} → x ≡ at_0 BookLayout → AnswersRules b p (Err x)
  unfolding rules_read is_book
  no-book e f v =
      let o : entries_of b ≡ none = is_none (entries_of b) (sym e ∙ f) in
      rw v (no_answer {x = at_0 BookLayout} (rw o))

  module _ (eb : is_book b ≡ true) where
    book-is : entries_of b ≡ some (records_of b)
    unfolding is_book
    book-is = is-some (entries_of b) eb

    pub no-limits : {r : Bool} → r ≡ within_limits (records_of b) → r ≡ false → {x : Refused} → x ≡ at_0 BookLimit → AnswersRules b p (Err x)
    unfolding rules_read
    no-limits e f v =
        let l : within_limits (records_of b) ≡ false = sym e ∙ f in
        rw v (no_answer {x = at_0 BookLimit} (rw (book-is, l)))

    module _ (el : within_limits (records_of b) ≡ true) where
      pub no-pack : {r : Bool} → r ≡ is_some (pack_of p) → r ≡ false → {x : Refused} → x ≡ at_0 PackLayout → AnswersRules b p (Err x)
      unfolding rules_read
      no-pack e f v =
          let o : pack_of p ≡ none = is_none (pack_of p) (sym e ∙ f) in
          rw v (no_answer {x = at_0 PackLayout} (rw (book-is, el, o)))

      module _ (ep : is_some (pack_of p) ≡ true) where
        read_is : rules_read b p ≡ (default_zone (files_of p) (last_default none (records_of b)) >>= λ z. rules_of (files_of p) z (records_of b))
        unfolding rules_read
        read_is = let o : pack_of p ≡ some (files_of p) = is-some (pack_of p) ep in rw (book-is, el, o)

        pub no_default : {x : Refused} → AnswersDefault b p (Err x) → AnswersRules b p (Err x)
        no_default w = no_answer (read_is ∙ rw (sym w.means))

        module _ {d : Opened} (w : AnswersDefault b p (Ok d)) where
          as_read : rules_read b p ≡ rules_of (files_of p) (zone_meant p d) (records_of b)
          as_read = read_is ∙ rw (sym w.means)

          pub reads_all : (r : Result Schedule Refused) → ReadsBook b p r (rules_of (files_of p) (zone_meant p d) (records_of b)) → AnswersRules b p r
          reads_all (Ok s) r = record {
            means = r.means ∙ sym as_read;
            fits = record {
              works = r.fits.works;
              pauses = r.fits.pauses;
              closings = r.fits.closings;
              work-fits = r.fits.kept.work;
              breaks-fit = r.fits.kept.breaks;
              closed-fits = r.fits.kept.closed;
              well = rules-well b (records_of b) book-is el (files_of p) (zone_meant p d) (sym w.means) (schedule_is b p s) (sym r.means);
              limit = r.fits.limit;
            };
          }
          reads_all (Err x) r = record { means = r.means ∙ sym as_read; fits = tt }
