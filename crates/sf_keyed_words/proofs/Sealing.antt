-- A slot is sealed at the end of a walk over it.
use Rattle.std.proofs.Common.{◌≡◌, ℕ, ◌+◌, ◌/◌, ◌%◌, ◌<◌, true, eqb, List, Some, set, refl, sym, ◌∙◌, ap, subst, arith}
use Rattle.std.specs.Prelude.{slice_index}
use prog.Atomic.{either}
use mathlib.Core.Option.{some}
use mathlib.Core.Logic.{dite}
use native.Mathlib.Decide.{ℕ_discrete}
use lib.ListN.{get_elem?}
use Rattle.atomic_table.specs.Table.{State, Me, Valid, stepped, keeps, Allows}
use Rattle.atomic_table.proofs.Lists.{exchanged}
use Rattle.sf_lists.specs.Functions.{put}
use Rattle.sf_lists.proofs.Functions.{put_here, put_else}
use Rattle.sf_keyed_laws.specs.Words.{Words}
use Rattle.sf_keyed_laws.specs.Steps.{Step, seals, sealed_at}
use Rattle.sf_keyed_laws.proofs.Walking.{steps_keep}
use Rattle.sf_keyed_words.specs.declared.rule.KeyedSizes.{KeyedSizes}
use Rattle.sf_keyed_words.specs.declared.rule.View.{View}
use Rattle.sf_keyed_words.specs.Rule.{side_at, layout_of, gen_of, is_open_word, IsView, Holds}
use Rattle.sf_keyed_words.specs.Plays.{loses, tries_seal, with_walk}
use Rattle.sf_keyed_words.proofs.Lasting.{look_lasts, walk_lasts}
use Rattle.sf_keyed_words.proofs.Seats.{name_kept, losing, made, still}
use Rattle.sf_keyed_words.proofs.Telling.{MayFind, idle_at, walked_all}
use Rattle.sf_keyed_words.proofs.Tops.{front, front_view, unmoved}

-- the walk has come to its end, and the slot is not sealed
pub record MaySeal (z : KeyedSizes) (v : View) (q old new : ℕ) : Type 0 where
  pub find : MayFind z v q
  pub old_is : old ≡ v.found
  pub unsealed : old / 2 % 2 ≡ 0
  pub new_is : new ≡ old + 2

abbrev pub Sealed : (z : KeyedSizes) (id q old new : ℕ) (me : Me ℕ View) (t : State ℕ View) → ℕ → Type 0
Sealed z id q old new me t x = (w : View) × (a : _) × Valid t.homes me.1 a × Holds z (stepped t q x id me.1 w a) × tries_seal me.0 old new (slice_index t.words q) w

seal_won : (z : KeyedSizes) (id q old new : ℕ) (me : Me ℕ View) → MaySeal z me.0 q old new → (t : State ℕ View) → Holds z t → get_elem? t.views id ≡ some me.0
    → slice_index t.words q ≡ old → Sealed z id q old new me t new
seal_won z id q old new me may t p is found =
    let v = me.0 in
    let y = layout_of z in
    let s = p.words in
    let h = p.history in
    let below = may.find.below in
    let unsealed = may.unsealed in
    let new_is = may.new_is in
    let inside : q < z.tops + z.sides = omega (arith, below) in
    let step : Step y s = seals q in
    let s2 : Words = sealed_at s q in
    let ws : List ℕ = set t.words q new in
    let fr = front z t.words q new inside p.shows.size in
    let quarter : new / 4 ≡ old / 4 = omega (arith, new_is, unsealed) in
    let flag : new / 2 % 2 ≡ 1 = omega (arith, new_is, unsealed) in
    let all : (k : ℕ) (u : View) → get_elem? t.views k ≡ some u → IsView z s2 h ws p.holder k u = λ k u at. front_view z s s2 h t.words ws p.holder q new k u fr (λ d. refl) (λ l. look_lasts z s step u p.keeps l) (λ l w. walk_lasts z s step u p.keeps l w) (p.seats k u at) in
    let m = p.seats id v is in
    let idle = idle_at z t p id q v may.find m (found ∙ may.old_is) in
    let w : View = record v { seen = h; gone = with_walk v new } in
    let mine : IsView z s2 h ws p.holder id w = walked_all z s2 h ws p.holder id v q new may.find.sizes may.find.slot_is (λ _. put_here s.sealed q true) idle (all id v is) in (
      w,
      keeps,
      tt,
      made z t p id q new me w s2 h p.holder (steps_keep y s step p.keeps)
          (record { legal = p.tells.legal; opens = p.tells.opens; shuts = p.tells.shuts; news = p.tells.news; leads = p.tells.leads }) p.members
          (record {
            size = fr.size ∙ p.shows.size;
            tops = λ k lt. dite (ℕ_discrete k q)
                (λ here. ap (λ j. slice_index ws j / 4) here ∙ (ap (λ n. n / 4) fr.here ∙ (quarter ∙ (ap (λ n. n / 4) (sym found) ∙ (p.shows.tops q below ∙ ap s.top (sym here))))))
                (λ apart. ap (λ n. n / 4) (fr.else k apart) ∙ p.shows.tops k lt);
            sides = λ j lt. ap (λ n. n / 4) (fr.else (side_at z j) (λ b. omega (arith, below, b))) ∙ p.shows.sides j lt;
            within = p.shows.within;
            live = λ d led live. let l = p.shows.live d led live in (ap (λ n. is_open_word n d) (fr.state d) ∙ l.0, name_kept z t.words ws d (s.key_of d) (fr.name d) (fr.high d) l.1);
            shut = λ d led shut. ap (λ n. is_open_word n d) (fr.state d) ∙ p.shows.shut d led shut;
            only = p.shows.only;
            coming = λ d in_cells later. p.shows.coming d in_cells (subst (λ n. n / 8388608 < d / 1048576) (fr.state d) later);
            seals = λ k lt yes. dite (ℕ_discrete k q)
                (λ here. ap (λ j. slice_index ws j / 2 % 2) here ∙ (ap (λ n. n / 2 % 2) fr.here ∙ flag))
                (λ apart. ap (λ n. n / 2 % 2) (fr.else k apart) ∙ p.shows.seals k lt (sym (put_else s.sealed q true k apart) ∙ yes));
            bits = λ k lt one. dite (ℕ_discrete k q)
                (λ here. ap (put s.sealed q true) here ∙ put_here s.sealed q true)
                (λ apart. put_else s.sealed q true k apart ∙ p.shows.bits k lt (sym (ap (λ n. n / 2 % 2) (fr.else k apart)) ∙ one));
            marks = λ k lt even. dite (ℕ_discrete k q)
                (λ here. ap s.marked here ∙ p.shows.marks q below (let same : slice_index ws k % 2 ≡ new % 2 = ap (λ j. slice_index ws j % 2) here ∙ ap (λ n. n % 2) fr.here in let was : slice_index t.words q % 2 ≡ old % 2 = ap (λ n. n % 2) found in omega (arith, same, was, new_is, even)))
                (λ apart. p.shows.marks k lt (sym (ap (λ n. n % 2) (fr.else k apart)) ∙ even));
            values = λ d led g odd. p.shows.values d led (sym (ap gen_of (fr.state d)) ∙ g) (sym (ap (λ n. n / 2097152 % 4 % 2) (fr.state d)) ∙ odd) ∙ ap (λ n. Some (Some n)) (sym (fr.value d));
          })
          is
          (unmoved z t.words ws q new v w fr inside (λ d. refl))
          (λ k u apart at. all k u at)
          mine,
      record { won = λ _. (refl, record { seen = m.seen; legal = p.tells.legal; gone = λ k is. p.tells.shuts k (mine.look.gone k is).none }, λ k slot unmet. p.tells.shuts k (idle k slot unmet)); lost = λ bar. absurd (bar found) },
    )

pub seals_allowed : (z : KeyedSizes) (slots id q old new : ℕ) (me : Me ℕ View) → MaySeal z me.0 q old new
    → Allows (Holds z) slots id me q (λ n. either (eqb n old) new n) (λ n after. tries_seal me.0 old new n after.0)
seals_allowed z slots id q old new me may t p len is fits =
    exchanged (slice_index t.words q) old new (Sealed z id q old new me t) (seal_won z id q old new me may t p is)
    (λ differ. (
      loses me.0,
      keeps,
      tt,
      still z t p id q me (loses me.0) is (λ d. refl) (losing z p.words p.history t.words p.holder id me.0 (p.seats id me.0 is)),
      record { won = λ yes. absurd (differ yes); lost = λ _. refl },
    ))
