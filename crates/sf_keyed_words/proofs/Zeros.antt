-- A table of zeros, where nothing was led, meets the rule.
use Rattle.std.proofs.Common.{◌%◌, ◌*◌, ◌≡◌, ℕ, zero, suc, ◌+◌, ◌/◌, ◌<◌, false, List, [], ◌∷◌, length, set, ⊎_elim, replicate, refl, sym, ◌∙◌, ap, subst, arith}
use Rattle.std.proofs.lemmas.Bool.{true≢false}
use Rattle.std.proofs.lemmas.List.{length-replicate, get_or-replicate}
use Rattle.std.specs.Prelude.{slice_index, nat_eq}
use mathlib.Core.Option.{some, some-injective, some-ne-none}
use lib.ListN.{get_elem?}
use Rattle.atomic_table.specs.Table.{opening, Splits}
use Rattle.atomic_table.proofs.Lists.{at_snoc}
use Rattle.std.proofs.lemmas.List.Sums.{sum_by_push}
use Rattle.sf_keyed_words.proofs.Seats.{seats_set, sum_set}
use Rattle.sf_history.proofs.LegalHistories.{legal_nil}
use Rattle.sf_keyed_laws.specs.Words.{Words}
use Rattle.sf_keyed_words.specs.declared.rule.KeyedSizes.{KeyedSizes}
use Rattle.sf_keyed_words.specs.declared.rule.View.{View}
use Rattle.sf_keyed_words.specs.Rule.{side_at, held_of, word_total, stake, IsView, Holds, first_view, note_of}

abbrev blank : Words
blank = record { top = λ _. 0; marked = λ _. false; sealed = λ _. false; side = λ _. 0; led = λ _. false; closed = λ _. false; key_of = λ _. 0 }

pub opens : (z : KeyedSizes) (words : List ℕ) → words ≡ replicate (word_total z) 0 → Holds z (opening {S = ℕ} words [] (first_view z))
opens z words zeros = record {
  words = blank;
  history = [];
  holder = λ _. 0;
  keeps = record {
    found = λ e led _ _. absurd (true≢false (sym led));
    marks = λ e led _ _. absurd (true≢false (sym led));
    one = λ e f led _ _ _ _. absurd (true≢false (sym led));
    tops = λ p any. absurd (any refl);
    sides = λ w any. absurd (any refl);
    none = refl;
  };
  tells = record {
    legal = legal_nil nat_eq;
    opens = λ e led _. absurd (true≢false (sym led));
    shuts = λ k _. refl;
    news = λ e _. refl;
    leads = λ e led. absurd (true≢false (sym led));
  };
  members = λ c g _ _. refl;
  shows = record {
    size = ap length zeros ∙ length-replicate (word_total z) 0;
    tops = λ p lt. ap (λ n. n / 4) (zero_at p (omega (arith, lt)));
    sides = λ w lt. ap (λ n. n / 4) (zero_at (side_at z w) (omega (arith, lt)));
    within = λ e led. absurd (true≢false (sym led));
    live = λ e led _. absurd (true≢false (sym led));
    shut = λ e led _. absurd (true≢false (sym led));
    only = λ e shut. absurd (true≢false (sym shut));
    coming = λ e _ _. refl;
    seals = λ p _ yes. absurd (true≢false (sym yes));
    bits = λ p lt one. let none : slice_index words p / 2 % 2 ≡ 0 = ap (λ n. n / 2 % 2) (zero_at p (omega (arith, lt))) in absurd (omega (arith, none, one));
    marks = λ p _ _. refl;
    values = λ e led _ _. absurd (true≢false (sym led));
  };
  counts = λ i lt. ap held_of (zero_at (z.tops + z.sides + 8 * i) (omega (arith, lt)));
  seats = seats;
}
  where
    zero_at : (i : ℕ) → i < word_total z → slice_index words i ≡ 0
    zero_at i lt = ap (λ ws. slice_index ws i) zeros ∙ get_or-replicate (word_total z) i 0 0 lt

    seats : (seat : ℕ) (v : View) → get_elem? (first_view z ∷ []) seat ≡ some v → IsView z blank [] words (λ _. 0) seat v
    seats zero v e = subst (IsView z blank [] words (λ _. 0) 0) (some-injective (first_view z) v e) (record {
      seen = ([], refl);
      heard = ([], refl);
      look = record {
        top = λ any. absurd (any refl);
        but = λ any. absurd (any refl);
        clear = λ no. absurd (true≢false (sym no));
        dead = λ no. absurd (true≢false (sym no));
        half = λ no. absurd (true≢false (sym no));
        told = λ no. absurd (true≢false (sym no));
        gone = λ k no. absurd (true≢false (sym no));
      };
      walk = λ no. absurd (true≢false (sym no));
      own = λ any. absurd (any refl);
      begun = λ any. absurd (any refl);
      leads = λ any. absurd (any refl);
      ticket = λ any. absurd (any refl);
      last = λ any. absurd (any refl);
    })
    seats (suc k) v e = absurd (some-ne-none v (sym e))

level : (a b c d : ℕ) → a ≡ b + 0 → b + c ≡ d + c → d ≡ a
level a b c d x y = omega arith

-- a new seat that has seen what another has
pub splits : (z : KeyedSizes) (id : ℕ) (v : View) → Splits {S = ℕ} (Holds z) id v v (note_of v)
splits z id v t p is =
    let m = p.seats id v is in
    let note : (k : ℕ) → IsView z p.words p.history t.words p.holder k (note_of v) = λ k. record {
      seen = m.seen;
      heard = (p.history, refl);
      look = record {
        top = λ any. absurd (any refl);
        but = λ any. absurd (any refl);
        clear = λ no. absurd (true≢false (sym no));
        dead = λ no. absurd (true≢false (sym no));
        half = λ no. absurd (true≢false (sym no));
        told = λ no. absurd (true≢false (sym no));
        gone = λ k no. absurd (true≢false (sym no));
      };
      walk = λ no. absurd (true≢false (sym no));
      own = λ any. absurd (any refl);
      begun = λ any. absurd (any refl);
      leads = λ any. absurd (any refl);
      ticket = λ any. absurd (any refl);
      last = λ any. absurd (any refl);
    } in
    record {
      words = p.words;
      history = p.history;
      holder = p.holder;
      keeps = p.keeps;
      tells = p.tells;
      members = p.members;
      shows = p.shows;
      counts = λ i lt. p.counts i lt ∙ level _ _ (stake i v) _ (sum_by_push (stake i) (set t.views id v) (note_of v)) (sum_set (stake i) t.views id v v is);
      seats = λ k u at. ⊎_elim
          (λ there. seats_set (IsView z p.words p.history t.words p.holder) t.views id v (λ j w _ here. p.seats j w here) m k u there)
          (λ same. subst (IsView z p.words p.history t.words p.holder k) same (note k))
          (at_snoc (set t.views id v) (note_of v) u k at);
    }
