-- A piece of the input is read, and its answers are written as often as the memory for them is full.
use Rattle.std.proofs.Common.{◌≡◌, sym, ap, ◌∙◌, subst, ℕ, suc, ◌≤◌, ◌<◌, List, [], ◌∷◌, ◌++◌, Option, Result, Ok, Err, IfErr, arith, length, take, drop, get_or, append_assoc, drop_of_length-le, take-append-drop}
use Rattle.std.proofs.Math.Seq.{take-append_seam}
use Rattle.std.specs.Io.KnownBytes.{Appends}
use Rattle.std.proofs.KnownBytes.{Appends-nil, Appends-trans}
use Rattle.model.specs.Answer.{Answer}
use Rattle.model.specs.Working.{Schedule}
use Rattle.model.specs.Lines.{lines_of}
use Rattle.query_line.specs.Reading.{Bytes}
use Rattle.answer_line.specs.Placed.{Placed}
use Rattle.query_stream.specs.Streaming.{to_come, out_yet, Fed}
use Rattle.query_stream.specs.declared.Progress.{Progress}
use Rattle.clock_run.specs.Runs.{Passes, PassFails}

-- what was put from the start of the memory on is its front
pub front-placed : {old new : List ℕ} {end : ℕ} {s : List ℕ} → Placed old new 0 end s → take end new ≡ s
front-placed {old} {new} {end} {s} p =
    let e : end ≡ length s = omega (arith, p.behind) in
    ap (λ n. take n new) e ∙ ap (take (length s)) p.bytes ∙ take-append_seam s (drop end old)

pub bytes-at : (s : List ℕ) → ((k : ℕ) → get_or s k 0 < 256) → Bytes s
bytes-at [] h = tt
bytes-at (c ∷ s) h = (h 0, bytes-at s (λ k. h (suc k)))

-- a fact that needs no error holds at each
pub at_err : {X E : Type 0} {P : Type 0} (r : Result X E) → P → IfErr r (λ _. P)
at_err (Ok x) p = tt
at_err (Err e) p = p

-- p became r, which is about to read byte i
pub record Passing (a : Answer Schedule) (input : List ℕ) (old new : Option (List ℕ)) (p r : Progress) (i : ℕ) : Type 0 where
  pub bytes : Bytes input
  pub text : List ℕ
  pub written : Appends old new text
  pub same : (t : List ℕ) → Bytes t → text ++ to_come a r (drop i input ++ t) ≡ to_come a p (input ++ t)
  pub inside : i ≤ length input

module _ (a : Answer Schedule) (input : List ℕ) (old : Option (List ℕ)) (p : Progress) where
  -- r is p with another place to read
  pub passing-first : (r : Progress) → r.line ≡ p.line → r.begun ≡ p.begun → Bytes input → Passing a input old old p r 0
  passing-first r line begun b =
      record {
        bytes = b;
        text = [];
        written = Appends-nil old;
        same = λ t h. let lines = lines_of (input ++ t) in ap (λ l. out_yet a l r.begun lines) line ∙ ap (λ x. out_yet a p.line x lines) begun;
        inside = omega arith;
      }

  -- q is r with another place to read and to write
  module _ (mid new : Option (List ℕ)) (r q s : Progress) (i : ℕ) (from to : List ℕ) (line : q.line ≡ r.line) (begun : q.begun ≡ r.begun) (next : q.next ≡ i) (used : q.used ≡ 0)
      (g : Passing a input old mid p r i) (f : Fed a input from to q s) where
    fed-same : (t : List ℕ) → Bytes t → f.text ++ to_come a s (drop s.next input ++ t) ≡ to_come a r (drop i input ++ t)
    fed-same t b =
        let lines = lines_of (drop i input ++ t) in
        f.same t b ∙ ap (λ n. to_come a q (drop n input ++ t)) next ∙ ap (λ l. out_yet a l q.begun lines) line ∙ ap (λ x. out_yet a r.line x lines) begun

    fed-front : take s.used to ≡ f.text
    fed-front = front-placed (subst (λ n. Placed from to n s.used f.text) used f.placed)

    pub passing-next : Appends mid new (take s.used to) → Passing a input old new p s s.next
    passing-next w =
        record {
          bytes = g.bytes;
          text = g.text ++ f.text;
          written = Appends-trans _ _ _ _ _ g.written (subst (Appends mid new) fed-front w);
          same = λ t b. append_assoc g.text f.text _ ∙ ap (λ l. g.text ++ l) (fed-same t b) ∙ g.same t b;
          inside = f.next;
        }

    pub passing-fails : (n : ℕ) → Appends mid new (take n (take s.used to)) → PassFails a input old new p
    passing-fails n w =
        record {
          bytes = g.bytes;
          text = g.text ++ take n f.text;
          written = Appends-trans _ _ _ _ _ g.written (subst (λ l. Appends mid new (take n l)) fed-front w);
          front =
              λ t b.
              let come : List ℕ = to_come a s (drop s.next input ++ t) in (
                drop n f.text ++ come,
                append_assoc g.text (take n f.text) (drop n f.text ++ come)
                    ∙ ap (λ l. g.text ++ l) (sym (append_assoc (take n f.text) (drop n f.text) come) ∙ ap (λ l. l ++ come) (take-append-drop n f.text) ∙ fed-same t b)
                    ∙ g.same t b,
              );
        }

  pub passed : (new : Option (List ℕ)) (r : Progress) (i : ℕ) → length input ≤ i → Passing a input old new p r i → Passes a input old new p r
  passed new r i h g =
      record {
        bytes = g.bytes;
        text = g.text;
        written = g.written;
        same = λ t b. ap (λ l. g.text ++ to_come a r (l ++ t)) (sym (drop_of_length-le input h)) ∙ g.same t b;
      }
