-- The top word of a slot names another call, or says that it is sealed; and a side word names the top.
use Rattle.std.proofs.Common.{◌*◌, ◌≡◌, ◌≢◌, ℕ, ◌+◌, ◌/◌, ◌%◌, ◌<◌, Bool, true, false, cond, eqb, eq-eqb, ne_eqb, List, [], ◌∷◌, ◌++◌, Some, None, set, length, refl, sym, ◌∙◌, ap, subst, arith}
use Rattle.std.proofs.lemmas.Bool.{true≢false}
use Rattle.std.specs.Prelude.{slice_index}
use prog.Atomic.{either}
use mathlib.Core.Option.{some}
use mathlib.Core.Logic.{dite}
use native.Mathlib.Decide.{ℕ_discrete}
use lib.ListN.{get_elem?}
use Rattle.atomic_table.specs.Table.{State, Me, Valid, stepped, keeps, Allows}
use Rattle.atomic_table.proofs.Lists.{exchanged}
use Rattle.sf_lists.specs.Functions.{put}
use Rattle.sf_lists.proofs.Functions.{put_here, put_else}
use Rattle.sf_keyed_tells.specs.Tells.{KeyedEvent}
use Rattle.sf_history.specs.declared.event.Event.TheVariants.{Lead}
use Rattle.sf_keyed_laws.specs.Words.{Words}
use Rattle.sf_keyed_laws.specs.Steps.{Step, HasNoOpen, Leads, leads, sets_aside, SetsAside, led_on, aside_at}
use Rattle.sf_keyed_laws.proofs.Walking.{steps_keep}
use Rattle.sf_keyed_tells.specs.Tells.{call_of, Tells}
use Rattle.sf_keyed_tells.proofs.Telling.{by_bool, lead_tells}
use Rattle.sf_keyed_words.specs.declared.rule.KeyedSizes.{KeyedSizes}
use Rattle.sf_keyed_words.specs.declared.rule.View.{View}
use Rattle.sf_keyed_words.specs.Rule.{slot_of, side_at, state_at, name_at, high_at, NameIs, value_at, layout_of, sides_from, gen_of, held_of, is_open_word, IsOwn, IsLeads, IsLook, IsWalk, IsView, held_at, stake, KeyedTable, Holds}
use Rattle.sf_keyed_words.proofs.Lasting.{look_lasts, walk_lasts}
use Rattle.sf_history.proofs.Members.{joined_kept}
use Rattle.sf_keyed_words.proofs.Results.{either_closed, lead_members, plain_settled, new_unsettled, new_unjoined, result_kept}
use Rattle.sf_keyed_words.proofs.Seats.{name_kept, losing, made, still, view_away, Away}
use Rattle.sf_keyed_words.proofs.States.{last_never, whole, one_more, open_from, ready_gen, ready_tag, ready_bit}
use Rattle.std.proofs.lemmas.List.{length-set, get_or-set_same, get_or-set_other}
use Rattle.sf_keyed_laws.specs.Words.{IsAside}
use Rattle.sf_keyed_laws.specs.Walks.{HasWalked}
use Rattle.sf_keyed_laws.proofs.Walking.{walks_end, walks_clear, unmarked_is_walked}
use Rattle.sf_keyed_words.specs.Rule.{Unmet}
use Rattle.sf_keyed_words.specs.Plays.{tries_lead, led_view, loses, try_aside}
use Rattle.sf_keyed_words.proofs.Lasting.{led_lasts}
use Rattle.sf_keyed_words.proofs.Stores.{unowned, unowned_view}

-- the words after one that is no cell's was changed
pub record Front (z : KeyedSizes) (ws ws2 : List ℕ) (i x : ℕ) : Type 0 where
  pub size : length ws2 ≡ length ws
  pub here : slice_index ws2 i ≡ x
  pub else : (j : ℕ) → j ≢ i → slice_index ws2 j ≡ slice_index ws j
  pub state : (e : ℕ) → slice_index ws2 (state_at z e) ≡ slice_index ws (state_at z e)
  pub name : (e : ℕ) → slice_index ws2 (name_at z e) ≡ slice_index ws (name_at z e)
  pub high : (e : ℕ) → slice_index ws2 (high_at z e) ≡ slice_index ws (high_at z e)
  pub value : (e : ℕ) → slice_index ws2 (value_at z e) ≡ slice_index ws (value_at z e)

pub front : (z : KeyedSizes) (ws : List ℕ) (i x : ℕ) → i < z.tops + z.sides → length ws ≡ z.tops + z.sides + 8 * z.cells → Front z ws (set ws i x) i x
front z ws i x lt size =
    let else : (j : ℕ) → j ≢ i → slice_index (set ws i x) j ≡ slice_index ws j = λ j d. get_or-set_other ws i j x 0 d in
    record {
      size = length-set ws i x;
      here = get_or-set_same ws i x 0 (omega arith);
      else = else;
      state = λ e. else (state_at z e) (λ q. omega arith);
      name = λ e. else (name_at z e) (λ q. omega arith);
      high = λ e. else (high_at z e) (λ q. omega arith);
      value = λ e. else (value_at z e) (λ q. omega arith);
    }

pub unmoved : (z : KeyedSizes) (ws ws2 : List ℕ) (i x : ℕ) (v w : View) → Front z ws ws2 i x → i < z.tops + z.sides → ((d : ℕ) → stake d v ≡ stake d w)
    → (d : ℕ) → d < z.cells → held_of (slice_index ws2 (z.tops + z.sides + 8 * d)) + stake d v ≡ held_of (slice_index ws (z.tops + z.sides + 8 * d)) + stake d w
unmoved z ws ws2 i x v w fr below same d lt =
    ap (λ n. held_of n + stake d v) (fr.else (z.tops + z.sides + 8 * d) (λ q. omega arith)) ∙ ap (λ n. held_of (slice_index ws (z.tops + z.sides + 8 * d)) + n) (same d)

-- a view after a step on a word that is no cell's, by which no call is led
pub front_view : (z : KeyedSizes) (s s2 : Words) (h : List KeyedEvent) (ws ws2 : List ℕ) (holder : ℕ → ℕ) (i x k : ℕ) (u : View) → Front z ws ws2 i x → ((e : ℕ) → s2.led e ≡ s.led e)
    → (IsLook z s u → IsLook z s2 u) → (IsLook z s u → IsWalk z s u → IsWalk z s2 u) → IsView z s h ws holder k u → IsView z s2 h ws2 holder k u
front_view z s s2 h ws ws2 holder i x k u fr led look walk m =
    view_away z s s2 h h ws ws2 holder holder 1048576 k u
    (record { state = λ e _ _. fr.state e; name = λ e _ _. fr.name e; high = λ e _ _. fr.high e; value = λ e _ _. fr.value e; holder_is = λ j _. refl; led = λ e _. led e; settled = λ e _ before. before; entered = λ e _. refl })
    (whole h) look walk (λ any here o. omega (arith, here)) (λ any here o. absurd (omega (arith, here))) (λ any here o. absurd (omega (arith, here))) (λ any here o. omega (arith, here)) m

-- what the seat knows at the end of its walk
pub record MayLead (z : KeyedSizes) (v : View) (p old new : ℕ) : Type 0 where
  pub below : p < z.tops
  pub slot : slot_of z v.key ≡ p
  pub slot_is : v.slot ≡ p
  pub call : v.own ≢ 0
  pub named : v.named ≡ true
  pub new_is : new / 4 ≡ v.own
  pub plain : new / 2 % 2 ≡ 0
  pub old_is : old / 4 ≡ v.top
  pub unsealed : old / 2 % 2 ≡ 0
  pub walks : v.walks ≡ true
  pub clear : v.clear ≡ true
  pub looked : old % 2 ≡ 1 → v.looked ≡ 16
  pub other : v.other ≡ true
  pub saved : v.saved ≡ true
  pub unmet : Unmet v.names v.key
  pub mark : new % 2 ≡ 0 → (k : ℕ) → slot_of z k ≡ p → Unmet v.names k
  pub idle : v.leads ≡ 0

-- so the step is a lead
is_lead : (z : KeyedSizes) (t : State ℕ View) (p : KeyedTable z t) (id : ℕ) (v : View) (q old new : ℕ) → MayLead z v q old new → IsView z p.words p.history t.words p.holder id v
    → slice_index t.words q ≡ old → Leads (layout_of z) p.words v.own v.key v.top (eqb (new % 2) 1)
is_lead z t p id v q old new may m found =
    let y = layout_of z in
    let s = p.words in
    let own = m.own may.call in
    let walk = m.walk may.walks in
    let unsealed = may.unsealed in
    let top : (k : ℕ) → slot_of z k ≡ q → s.top (slot_of z k) ≡ v.top = λ k slot. ap s.top slot ∙ (sym (p.shows.tops q may.below) ∙ (ap (λ n. n / 4) found ∙ may.old_is)) in
    let none : (k : ℕ) → slot_of z k ≡ q → Unmet v.names k → HasNoOpen s k = λ k slot unmet.
    let walked : HasWalked y s k v.top v.top 16 = dite (ℕ_discrete (old % 2) 1)
    (λ odd. subst (λ n. HasWalked y s k v.top v.top n) (may.looked odd) (walks_clear y s k v.top v.but v.looked (walk.walked k (slot ∙ sym may.slot_is) unmet) (m.look.clear may.clear k unmet)))
    (λ isnt. unmarked_is_walked y s k v.top p.keeps (top k slot) (ap s.marked slot ∙ p.shows.marks q may.below (let even : slice_index t.words q % 2 ≡ old % 2 = ap (λ n. n % 2) found in omega (arith, even, isnt)))) in
    walks_end y s k v.top walked (top k slot) (walk.other may.other k unmet) in
    record {
      call = may.call;
      new = own.new;
      was = top v.key may.slot;
      unsealed = ap s.sealed may.slot ∙ by_bool (s.sealed q) (λ yes. let one = p.shows.seals q may.below yes in let two : slice_index t.words q / 2 % 2 ≡ 0 = ap (λ n. n / 2 % 2) found ∙ unsealed in omega (arith, one, two));
      none = none v.key may.slot may.unmet;
      clean = λ no e led live here. none (s.key_of e) (here ∙ may.slot)
          (may.mark (dite (ℕ_discrete (new % 2) 1) (λ one. absurd (true≢false (sym (eq-eqb (new % 2) 1 one) ∙ no))) (λ isnt. omega (arith, isnt))) (s.key_of e) (here ∙ may.slot))
          e led live refl;
      saved = λ led live. subst (λ k. IsAside y s k 0 v.top) (may.slot_is ∙ sym may.slot) (walk.saved may.saved led live);
    }

abbrev pub Outcome : (z : KeyedSizes) (id q old : ℕ) (me : Me ℕ View) (t : State ℕ View) → ℕ → Type 0
Outcome z id q old me t x = (w : View) × (a : _) × Valid t.homes me.1 a × Holds z (stepped t q x id me.1 w a) × tries_lead me.0 old (slice_index t.words q) w

lead_won : (z : KeyedSizes) (id q old new : ℕ) (me : Me ℕ View) → MayLead z me.0 q old new → (t : State ℕ View) → Holds z t → get_elem? t.views id ≡ some me.0
    → slice_index t.words q ≡ old → Outcome z id q old me t new
lead_won z id q old new me may t p is found =
    let v = me.0 in
    let y = layout_of z in
    let s = p.words in
    let h = p.history in
    let m = p.seats id v is in
    let e : ℕ = v.own in
    let c : ℕ = e % 1048576 in
    let own = m.own may.call in
    let below = may.below in
    let inside : q < z.tops + z.sides = omega (arith, below) in
    let mark : Bool = eqb (new % 2) 1 in
    let lead : Leads y s e v.key v.top mark = is_lead z t p id v q old new may m found in
    let step : Step y s = leads e v.key v.top mark lead in
    let s2 : Words = led_on y s e v.key mark in
    let x : KeyedEvent = Lead (e % 1048576) v.key (call_of e) None in
    let h2 : List KeyedEvent = h ++ x ∷ [] in
    let fresh : s.closed e ≡ false = by_bool (s.closed e) (λ yes. true≢false (sym (p.shows.only e yes) ∙ own.new)) in
    let tells : Tells s2 h2 = lead_tells y s e v.key v.top mark h lead fresh p.tells in
    let ws : List ℕ = set t.words q new in
    let fr = front z t.words q new inside p.shows.size in
    let two : slice_index t.words (state_at z e) / 2097152 % 4 ≡ 2 = ap (λ n. n / 2097152 % 4) own.state ∙ ready_tag e in
    let gen : slice_index t.words (state_at z e) / 8388608 ≡ e / 1048576 = ap gen_of own.state ∙ ready_gen e in
    let away : Away z s s2 h h2 t.words ws p.holder p.holder c = record {
      state = λ d _ _. fr.state d;
      name = λ d _ _. fr.name d;
      high = λ d _ _. fr.high d;
      value = λ d _ _. fr.value d;
      holder_is = λ j _. refl;
      led = λ d apart. put_else s.led e true d (λ k. apart (ap (λ n. n % 1048576) k));
      settled = λ d _ before. plain_settled h x (call_of d) refl before;
      entered = λ d _. joined_kept h x (call_of d) refl;
    } in
    let far : (k : ℕ) (u : View) → (u.own ≢ 0 → u.own % 1048576 ≡ c → IsOwn z s t.words p.holder k u.own u.named u.key → ⊥) → (u.leads ≢ 0 → u.leads % 1048576 ≡ c → IsLeads z s h t.words p.holder k u.leads u.stored u.value → ⊥)
    → IsView z s h t.words p.holder k u → IsView z s2 h2 ws p.holder k u
    = λ k u one two2 view. view_away z s s2 h h2 t.words ws p.holder p.holder c k u away (one_more h x) (λ l. look_lasts z s step u p.keeps l) (λ l w. walk_lasts z s step u p.keeps l w)
    one
    (λ any here o. absurd (two2 any here o))
    (λ any here o. record {
      led = led_lasts y s step u.ticket o.led;
      within = o.within;
      generation = ap (λ n. n / 8388608) (fr.state u.ticket) ∙ o.generation;
      settled = λ yes. ap (λ n. n / 2097152 % 4 % 2) (fr.state u.ticket) ∙ o.settled yes;
    })
    (λ any here o. last_never z p.words t.words p.holder k u.last _ c refl (λ odd none. omega (arith, two, odd)) here o)
    view in
    let mine = far id (unowned v) (λ any here o. any refl) (λ any here o. any may.idle) (unowned_view z s h t.words p.holder id v m) in
    let w : View = led_view v h2 in
    let same : (d : ℕ) → held_at d v.own + held_at d v.leads + held_at d v.ticket ≡ held_at d 0 + held_at d v.own + held_at d v.ticket = λ d. let a : held_at d v.leads ≡ 0 = ap (held_at d) may.idle in let b : held_at d 0 ≡ 0 = refl in omega (arith, a, b) in
    let slot : slot_of z v.key ≡ q = may.slot in (
      w,
      keeps,
      tt,
      made z t p id q new me w s2 h2 p.holder (steps_keep y s step p.keeps) tells (lead_members h e v.key p.members)
          (record {
            size = fr.size ∙ p.shows.size;
            tops = λ k lt. dite (ℕ_discrete k q)
                (λ here. ap (λ j. slice_index ws j / 4) here ∙ (ap (λ n. n / 4) fr.here ∙ (may.new_is ∙ sym (ap (put s.top (slot_of z v.key) e) (here ∙ sym slot) ∙ put_here s.top (slot_of z v.key) e))))
                (λ apart. ap (λ n. n / 4) (fr.else k apart) ∙ (p.shows.tops k lt ∙ sym (put_else s.top (slot_of z v.key) e k (λ b. apart (b ∙ slot)))));
            sides = λ j lt. ap (λ n. n / 4) (fr.else (side_at z j) (λ b. omega (arith, below, b))) ∙ p.shows.sides j lt;
            within = λ d led. dite (ℕ_discrete d e)
                (λ here. subst (λ k. k % 1048576 < z.cells) (sym here) own.within)
                (λ apart. p.shows.within d (sym (put_else s.led e true d apart) ∙ led));
            live = λ d led live. dite (ℕ_discrete d e)
                (λ here. (
                  ap (λ k. is_open_word (slice_index ws (state_at z k)) k) here ∙ (ap (λ n. is_open_word n e) (fr.state e) ∙ open_from _ e gen two),
                  subst (λ k. NameIs z ws k (put s.key_of e v.key k)) (sym here) (subst (NameIs z ws e) (sym (put_here s.key_of e v.key)) (name_kept z t.words ws e v.key (fr.name e) (fr.high e) (own.name may.named))),
                ))
                (λ apart. let l = p.shows.live d (sym (put_else s.led e true d apart) ∙ led) live in (
                  ap (λ n. is_open_word n d) (fr.state d) ∙ l.0,
                  subst (NameIs z ws d) (sym (put_else s.key_of e v.key d apart)) (name_kept z t.words ws d (s.key_of d) (fr.name d) (fr.high d) l.1),
                ));
            shut = λ d led shut. dite (ℕ_discrete d e)
                (λ here. absurd (true≢false (sym shut ∙ (ap s.closed here ∙ fresh))))
                (λ apart. ap (λ n. is_open_word n d) (fr.state d) ∙ p.shows.shut d (sym (put_else s.led e true d apart) ∙ led) shut);
            only = λ d shut. led_lasts y s step d (p.shows.only d shut);
            coming = λ d in_cells later. dite (ℕ_discrete d e)
                (λ here. let l : e / 1048576 < e / 1048576 = subst (λ n. n < e / 1048576) (ap (λ k. slice_index ws (state_at z k) / 8388608) here ∙ (ap gen_of (fr.state e) ∙ gen)) (subst (λ k. slice_index ws (state_at z d) / 8388608 < k / 1048576) here later) in absurd (omega (arith, l)))
                (λ apart. put_else s.led e true d apart ∙ p.shows.coming d in_cells (subst (λ n. n / 8388608 < d / 1048576) (fr.state d) later));
            seals = λ k lt yes. dite (ℕ_discrete k q)
                (λ here. absurd (true≢false (sym yes ∙ (ap s.sealed (here ∙ sym slot) ∙ lead.unsealed))))
                (λ apart. ap (λ n. n / 2 % 2) (fr.else k apart) ∙ p.shows.seals k lt yes);
            bits = λ k lt one. dite (ℕ_discrete k q)
                (λ here. let same : slice_index ws k / 2 % 2 ≡ new / 2 % 2 = ap (λ j. slice_index ws j / 2 % 2) here ∙ ap (λ n. n / 2 % 2) fr.here in let none = may.plain in absurd (omega (arith, same, none, one)))
                (λ apart. p.shows.bits k lt (sym (ap (λ n. n / 2 % 2) (fr.else k apart)) ∙ one));
            marks = λ k lt even. dite (ℕ_discrete k q)
                (λ here. ap (put s.marked (slot_of z v.key) mark) (here ∙ sym slot) ∙ (put_here s.marked (slot_of z v.key) mark ∙ ne_eqb (new % 2) 1 (λ one.
                let same : slice_index ws k % 2 ≡ new % 2 = ap (λ j. slice_index ws j % 2) here ∙ ap (λ n. n % 2) fr.here in
                omega (arith, same, one, even))))
                (λ apart. put_else s.marked (slot_of z v.key) mark k (λ b. apart (b ∙ slot)) ∙ p.shows.marks k lt (sym (ap (λ n. n % 2) (fr.else k apart)) ∙ even));
            values = λ d led g odd. dite (ℕ_discrete d e)
                (λ here. let o : slice_index t.words (state_at z e) / 2097152 % 4 % 2 ≡ 1 = sym (ap (λ k. slice_index ws (state_at z k) / 2097152 % 4 % 2) here ∙ ap (λ n. n / 2097152 % 4 % 2) (fr.state e)) ∙ odd in absurd (omega (arith, two, o)))
                (λ apart. result_kept h x (call_of d) _ (p.shows.values d (sym (put_else s.led e true d apart) ∙ led) (sym (ap gen_of (fr.state d)) ∙ g) (sym (ap (λ n. n / 2097152 % 4 % 2) (fr.state d)) ∙ odd)) ∙ ap (λ n. Some (Some n)) (sym (fr.value d)));
          })
          is
          (unmoved z t.words ws q new v w fr inside same)
          (λ k u apart at. far k u (λ any here o. apart (sym o.holder_is ∙ (ap p.holder here ∙ own.holder_is))) (λ any here o. apart (sym o.holder_is ∙ (ap p.holder here ∙ own.holder_is))) (p.seats k u at))
          (record {
            seen = whole h2;
            heard = mine.heard;
            look = mine.look;
            walk = λ no. absurd (true≢false (sym no));
            own = λ no. absurd (no refl);
            begun = λ no. absurd (no refl);
            leads = λ any. record {
              led = put_here s.led e true;
              holder_is = own.holder_is;
              within = own.within;
              generation = ap gen_of (fr.state e) ∙ gen;
              runs = ap (λ n. n / 2097152 % 4 % 2) (fr.state e) ∙ ap (λ n. n % 2) two;
              unsettled = plain_settled h x (call_of e) refl (new_unsettled h (call_of e) p.tells.legal (p.tells.news e own.new));
              value_is = λ no. absurd (true≢false (sym no));
              joins =
                  let bit : slice_index ws (state_at z e) / 1048576 % 2 ≡ 0 = ap (λ n. n / 1048576 % 2) (fr.state e ∙ own.state) ∙ ready_bit e in
                  (λ _. joined_kept h x (call_of e) refl ∙ new_unjoined h (call_of e) (p.tells.news e own.new), λ one. absurd (omega (arith, bit, one)));
            };
            ticket = mine.ticket;
            last = mine.last;
          }),
      record {
        won = λ _. (refl, record { before = m.seen.0; seen = ap (λ l. l ++ x ∷ []) m.seen.1; legal = tells.legal; gone = λ k is. tells.shuts k (mine.look.gone k is).none });
        lost = λ bar. absurd (bar found);
      },
    )

lead_lost : (z : KeyedSizes) (id q old : ℕ) (me : Me ℕ View) → (t : State ℕ View) → Holds z t → get_elem? t.views id ≡ some me.0
    → slice_index t.words q ≢ old → Outcome z id q old me t (slice_index t.words q)
lead_lost z id q old me t p is differ = (
  loses me.0,
  keeps,
  tt,
  still z t p id q me (loses me.0) is (λ d. refl) (losing z p.words p.history t.words p.holder id me.0 (p.seats id me.0 is)),
  record { won = λ yes. absurd (differ yes); lost = λ _. refl },
)

pub leads_allowed : (z : KeyedSizes) (slots id q old new : ℕ) (me : Me ℕ View) → MayLead z me.0 q old new
    → Allows (Holds z) slots id me q (λ n. either (eqb n old) new n) (λ n after. tries_lead me.0 old n after.0)
leads_allowed z slots id q old new me may t p len is fits =
    exchanged (slice_index t.words q) old new (Outcome z id q old me t) (lead_won z id q old new me may t p is) (lead_lost z id q old me t p is)

-- the top is set aside, in place of a dead call
pub record MayAside (z : KeyedSizes) (v : View) (j old new : ℕ) : Type 0 where
  pub below : j < z.sides
  pub at : ℕ
  pub within : at < 16
  pub place : j ≡ sides_from v.slot + at
  pub walks : v.walks ≡ true
  pub dead : v.dead ≡ true
  pub old_is : old / 4 ≡ v.but
  pub new_is : new / 4 ≡ v.top

abbrev pub Asided : (z : KeyedSizes) (id j old : ℕ) (me : Me ℕ View) (t : State ℕ View) → ℕ → Type 0
Asided z id j old me t x = (w : View) × (a : _) × Valid t.homes me.1 a × Holds z (stepped t (z.tops + j) x id me.1 w a) × (w ≡ try_aside me.0 old (slice_index t.words (z.tops + j)))

aside_won : (z : KeyedSizes) (id j old new : ℕ) (me : Me ℕ View) → MayAside z me.0 j old new → (t : State ℕ View) → Holds z t → get_elem? t.views id ≡ some me.0
    → slice_index t.words (z.tops + j) ≡ old → Asided z id j old me t new
aside_won z id j old new me may t p is found =
    let v = me.0 in
    let y = layout_of z in
    let s = p.words in
    let h = p.history in
    let m = p.seats id v is in
    let q : ℕ = z.tops + j in
    let below = may.below in
    let inside : q < z.tops + z.sides = omega (arith, below) in
    let sets : SetsAside s j v.but v.top = record {
      was = sym (p.shows.sides j below) ∙ (ap (λ n. n / 4) found ∙ may.old_is);
      dead = λ any. let led = m.look.but any in either_closed (s.closed v.but) (λ live. m.look.dead may.dead (s.key_of v.but) led live refl);
      led = m.look.top;
    } in
    let step : Step y s = sets_aside j v.but v.top sets in
    let s2 : Words = aside_at s j v.top in
    let ws : List ℕ = set t.words q new in
    let fr = front z t.words q new inside p.shows.size in
    let all : (k : ℕ) (u : View) → get_elem? t.views k ≡ some u → IsView z s2 h ws p.holder k u = λ k u at. front_view z s s2 h t.words ws p.holder q new k u fr (λ d. refl) (λ l. look_lasts z s step u p.keeps l) (λ l w. walk_lasts z s step u p.keeps l w) (p.seats k u at) in
    let mine = all id v is in
    let w : View = record v { saved = true } in
    let aside : IsAside y s2 v.slot 0 v.top = record { at = may.at; after = omega arith; within = may.within; names = ap s2.side (sym may.place) ∙ put_here s.side j v.top } in (
      w,
      keeps,
      tt,
      made z t p id q new me w s2 h p.holder (steps_keep y s step p.keeps)
          (record { legal = p.tells.legal; opens = p.tells.opens; shuts = p.tells.shuts; news = p.tells.news; leads = p.tells.leads }) p.members
          (record {
            size = fr.size ∙ p.shows.size;
            tops = λ k lt. ap (λ n. n / 4) (fr.else k (λ b. omega (arith, lt, b))) ∙ p.shows.tops k lt;
            sides = λ k lt. dite (ℕ_discrete k j)
                (λ here. ap (λ n. slice_index ws (z.tops + n) / 4) here ∙ (ap (λ n. n / 4) fr.here ∙ (may.new_is ∙ sym (ap (put s.side j v.top) here ∙ put_here s.side j v.top))))
                (λ apart. ap (λ n. n / 4) (fr.else (side_at z k) (λ b. apart (omega (arith, b)))) ∙ (p.shows.sides k lt ∙ sym (put_else s.side j v.top k apart)));
            within = p.shows.within;
            live = λ d led live. let l = p.shows.live d led live in (ap (λ n. is_open_word n d) (fr.state d) ∙ l.0, name_kept z t.words ws d (s.key_of d) (fr.name d) (fr.high d) l.1);
            shut = λ d led shut. ap (λ n. is_open_word n d) (fr.state d) ∙ p.shows.shut d led shut;
            only = p.shows.only;
            coming = λ d in_cells later. p.shows.coming d in_cells (subst (λ n. n / 8388608 < d / 1048576) (fr.state d) later);
            seals = λ k lt yes. ap (λ n. n / 2 % 2) (fr.else k (λ b. omega (arith, lt, b))) ∙ p.shows.seals k lt yes;
            bits = λ k lt yes. p.shows.bits k lt (sym (ap (λ n. n / 2 % 2) (fr.else k (λ b. omega (arith, lt, b)))) ∙ yes);
            marks = λ k lt even. p.shows.marks k lt (sym (ap (λ n. n % 2) (fr.else k (λ b. omega (arith, lt, b)))) ∙ even);
            values = λ d led g odd. p.shows.values d led (sym (ap gen_of (fr.state d)) ∙ g) (sym (ap (λ n. n / 2097152 % 4 % 2) (fr.state d)) ∙ odd) ∙ ap (λ n. Some (Some n)) (sym (fr.value d));
          })
          is
          (unmoved z t.words ws q new v w fr inside (λ d. refl))
          (λ k u apart at. all k u at)
          (record {
            seen = mine.seen;
            heard = mine.heard;
            look = mine.look;
            walk = λ yes. let walk = mine.walk yes in record { walked = walk.walked; other = walk.other; saved = λ _ led live. aside };
            own = mine.own;
            begun = mine.begun;
            leads = mine.leads;
            ticket = mine.ticket;
            last = mine.last;
          }),
      sym (ap (λ b. cond b w (loses v)) (eq-eqb _ old found)),
    )

pub asides_allowed : (z : KeyedSizes) (slots id j old new : ℕ) (me : Me ℕ View) → MayAside z me.0 j old new
    → Allows (Holds z) slots id me (z.tops + j) (λ n. either (eqb n old) new n) (λ n after. after.0 ≡ try_aside me.0 old n)
asides_allowed z slots id j old new me may t p len is fits =
    exchanged (slice_index t.words (z.tops + j)) old new (Asided z id j old me t) (aside_won z id j old new me may t p is)
    (λ differ. (
      loses me.0,
      keeps,
      tt,
      still z t p id (z.tops + j) me (loses me.0) is (λ d. refl) (losing z p.words p.history t.words p.holder id me.0 (p.seats id me.0 is)),
      sym (ap (λ b. cond b (record me.0 { saved = true }) (loses me.0)) (ne_eqb _ old differ)),
    ))
