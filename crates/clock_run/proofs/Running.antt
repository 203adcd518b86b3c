-- The input is read piece by piece, and what is written is the front of the answers to it.
use Rattle.std.proofs.Common.{◌≡◌, refl, sym, ap, ◌∙◌, subst, ℕ, List, [], ◌∷◌, ◌++◌, Option, None, Some, take, drop, append_assoc, take-append-drop}
use Rattle.std.specs.Io.KnownBytes.{Appends, Consumes, IsAtEnd}
use Rattle.std.proofs.KnownBytes.{Appends-nil, Appends-trans, Consumes-nil, Consumes-trans, Consumes-whole}
use Rattle.model.specs.Answer.{Answer}
use Rattle.model.specs.Working.{Schedule}
use Rattle.model.specs.Lines.{lines_of, least_only, answered}
use Rattle.query_line.specs.Reading.{Bytes}
use Rattle.answer_line.specs.Placed.{Placed}
use Rattle.query_stream.specs.Streaming.{to_come, out_yet, Begun}
use Rattle.query_stream.specs.declared.Progress.{Progress}
use Rattle.clock_run.specs.Runs.{IsFront, Passes, PassFails, AnswersAll, AnswersFront}
use Rattle.clock_run.proofs.Passing.{front-placed}

-- ---- bytes

bytes-join : (s t : List ℕ) → Bytes s → Bytes t → Bytes (s ++ t)
bytes-join [] t h g = g
bytes-join (c ∷ s) t h g = (h.0, bytes-join s t h.1 g)

bytes-behind : (s t : List ℕ) → Bytes (s ++ t) → Bytes t
bytes-behind [] t h = h
bytes-behind (c ∷ s) t h = bytes-behind s t h.1

no-lines : lines_of [] ≡ []
unfolding lines_of
no-lines = refl

-- ---- the run

-- `read` was read, and `text` was written: the answers to it, but for what is still to come at p
pub record Running (a : Answer Schedule) (from to old new : Option (List ℕ)) (p : Progress) : Type 0 where
  pub read : List ℕ
  pub bytes : Bytes read
  pub consumed : Consumes from to read
  pub text : List ℕ
  pub written : Appends old new text
  pub same : (t : List ℕ) → Bytes t → text ++ to_come a p t ≡ answered least_only a (read ++ t)

module _ (a : Answer Schedule) (from old : Option (List ℕ)) where
  pub running-first : (p : Progress) → Begun p → Running a from from old old p
  running-first p b =
      record {
        read = [];
        bytes = tt;
        consumed = Consumes-nil from;
        text = [];
        written = Appends-nil old;
        same = λ t h. b.0 t a h;
      }

  module _ (to new : Option (List ℕ)) (p : Progress) (g : Running a from to old new p) where
    -- the input has not ended, and no more is read
    pub running-front : AnswersFront a from old new
    running-front = front from to g.consumed
      where
        front : (from to : Option (List ℕ)) → Consumes from to g.read → AnswersFront a from old new
        front None to e = tt
        front (Some s) None e = absurd e
        front (Some s) (Some y) e =
            λ b.
            let h : Bytes y = bytes-behind g.read y (subst Bytes e b) in
            (g.text, g.written, (to_come a p y, g.same y h ∙ ap (answered least_only a) (sym e)))

    -- a piece was read
    module _ (past : Option (List ℕ)) (piece : List ℕ) (e : Consumes to past piece) (last : Option (List ℕ)) where
      pub running-next : (r : Progress) → Passes a piece new last p r → Running a from past old last r
      running-next r f =
          let b = f.bytes in
          record {
            read = g.read ++ piece;
            bytes = bytes-join g.read piece g.bytes b;
            consumed = Consumes-trans _ _ _ _ _ g.consumed e;
            text = g.text ++ f.text;
            written = Appends-trans _ _ _ _ _ g.written f.written;
            same =
                λ t h.
                append_assoc g.text f.text (to_come a r t) ∙ ap (λ l. g.text ++ l) (f.same t h) ∙ g.same (piece ++ t) (bytes-join piece t b h)
                ∙ ap (answered least_only a) (sym (append_assoc g.read piece t));
          }

      pub running-fails : PassFails a piece new last p → AnswersFront a from old last
      running-fails f = front from past (Consumes-trans _ _ _ _ _ g.consumed e)
        where
          front : (from past : Option (List ℕ)) → Consumes from past (g.read ++ piece) → AnswersFront a from old last
          front None past k = tt
          front (Some s) None k = absurd k
          front (Some s) (Some z) k =
              λ h.
              let b = f.bytes in
              let bz : Bytes z = bytes-behind (g.read ++ piece) z (subst Bytes k h) in
              let (u, q) = f.front z bz in (
                g.text ++ f.text,
                Appends-trans _ _ _ _ _ g.written f.written,
                (
                  u,
                  append_assoc g.text f.text u ∙ ap (λ l. g.text ++ l) q ∙ g.same (piece ++ z) (bytes-join piece z b bz)
                      ∙ ap (answered least_only a) (sym (append_assoc g.read piece z) ∙ sym k),
                ),
              )

    -- the input has ended
    module _ (past : Option (List ℕ)) (e : Consumes to past []) (end : IsAtEnd past) (last : Option (List ℕ)) (held put : List ℕ) (k : ℕ) (f : Placed held put 0 k (out_yet a p.line p.begun [])) where
      tail : List ℕ
      tail = out_yet a p.line p.begun []

      whole : g.text ++ out_yet a p.line p.begun [] ≡ answered least_only a (g.read ++ [])
      whole = ap (λ l. g.text ++ out_yet a p.line p.begun l) (sym no-lines) ∙ g.same [] tt

      all-read : Consumes from past (g.read ++ [])
      all-read = Consumes-trans _ _ _ _ _ g.consumed e

      pub running-all : Appends new last (take k put) → AnswersAll a from old last
      running-all w =
          let w' : Appends new last (out_yet a p.line p.begun []) = subst (Appends new last) (front-placed f) w in
          Consumes-whole from past (g.read ++ []) (λ s. Appends old last (answered least_only a s)) all-read end
          (subst (Appends old last) whole (Appends-trans _ _ _ _ _ g.written w'))

      pub running-cut : (n : ℕ) → Appends new last (take n (take k put)) → AnswersFront a from old last
      running-cut n w =
          let line : List ℕ = out_yet a p.line p.begun [] in
          let w' : Appends new last (take n line) = subst (λ l. Appends new last (take n l)) (front-placed f) w in
          Consumes-whole from past (g.read ++ []) (λ s. Bytes s → (text : List ℕ) × Appends old last text × IsFront text (answered least_only a s)) all-read end
          (λ _. (
            g.text ++ take n line,
            Appends-trans _ _ _ _ _ g.written w',
            (drop n line, append_assoc g.text (take n line) (drop n line) ∙ ap (λ l. g.text ++ l) (take-append-drop n line) ∙ whole),
          ))
