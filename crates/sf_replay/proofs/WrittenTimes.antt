-- what the loop that writes a recording keeps
use Rattle.std.proofs.Common.{◌≡◌, ◌∙◌, ℕ, ◌+◌, ◌<◌, ◌≤◌, List, [], ◌∷◌, ◌++◌, length, get_or, drop, Option, None, codes, decimal, refl, sym, ap, arith, append_assoc, append-nil}
use Rattle.std.proofs.lemmas.List.{drop_more, drop_all, get_or-drop, drop-drop}
use Rattle.sf_replay.specs.declared.record.Interval.{Interval}
use Rattle.sf_replay.specs.Record.{TextEvent}
use Rattle.sf_replay.specs.Written.{record_with, time_end, timed_records, recording_text}

-- the first record, by the first time
timed_next : (e : TextEvent) (es : List TextEvent) (ts : List (Option Interval)) → timed_records (e ∷ es) ts ≡ record_with (time_end (get_or ts 0 None)) e ++ (codes "\n" ++ timed_records es (drop 1 ts))
timed_next e es [] = refl
timed_next e es (t ∷ ts) = refl

-- what is written, before the records that are left, is the text of the recording
pub record IsTimedWritten (h : List TextEvent) (ts : List (Option Interval)) (lost i : ℕ) (text : List ℕ) : Type 0 where
  pub whole : text ++ timed_records (drop i h) (drop i ts) ≡ recording_text lost h ts

pub timed_none : (h : List TextEvent) (ts : List (Option Interval)) (lost : ℕ) (text : List ℕ) → text ≡ codes "{\"format\":4,\"lost\":" ++ (decimal lost ++ codes "}\n") → IsTimedWritten h ts lost 0 text
unfolding recording_text
timed_none h ts lost text is =
    record {
      whole = ap (λ t. t ++ timed_records h ts) is ∙ append_assoc (codes "{\"format\":4,\"lost\":") (decimal lost ++ codes "}\n") (timed_records h ts)
          ∙ ap (λ t. codes "{\"format\":4,\"lost\":" ++ t) (append_assoc (decimal lost) (codes "}\n") (timed_records h ts));
    }

pub timed_more : (h : List TextEvent) (ts : List (Option Interval)) (lost i : ℕ) (e : TextEvent) (text line new : List ℕ) → i < length h → e ≡ get_or h i e → line ≡ record_with (time_end (get_or ts i None)) e → new ≡ (text ++ line) ++ codes "\n"
    → IsTimedWritten h ts lost i text → IsTimedWritten h ts lost (i + 1) new
timed_more h ts lost i e text line new within here is added before =
    let rest = timed_records (drop (i + 1) h) (drop (i + 1) ts) in
    let at : get_or (drop i ts) 0 None ≡ get_or ts i None = get_or-drop i ts 0 None ∙ ap (λ k. get_or ts k None) (omega arith) in
    let left : timed_records (drop i h) (drop i ts) ≡ line ++ (codes "\n" ++ rest) =
    ap (λ es. timed_records es (drop i ts)) (drop_more h i e within ∙ ap (λ z. z ∷ drop (i + 1) h) (sym here)) ∙ timed_next e (drop (i + 1) h) (drop i ts)
    ∙ (λ j. record_with (time_end (at j)) e ++ (codes "\n" ++ timed_records (drop (i + 1) h) (drop-drop 1 i ts j))) ∙ ap (λ l. l ++ (codes "\n" ++ rest)) (sym is) in
    record {
      whole = ap (λ t. t ++ rest) added ∙ append_assoc (text ++ line) (codes "\n") rest ∙ append_assoc text line (codes "\n" ++ rest) ∙ ap (λ t. text ++ t) (sym left) ∙ before.whole;
    }

pub timed_all : (h : List TextEvent) (ts : List (Option Interval)) (lost i : ℕ) (text : List ℕ) → length h ≤ i → IsTimedWritten h ts lost i text → text ≡ recording_text lost h ts
timed_all h ts lost i text past done =
    let none : drop i h ≡ [] = drop_all i h past in
    sym (append-nil text) ∙ sym (ap (λ (es : List TextEvent). text ++ timed_records es (drop i ts)) none) ∙ done.whole
