-- A flight or a ticket goes to a seat of its own and comes back, and a seat hears what another has seen.
use Rattle.std.proofs.Common.{◌≡◌, ◌≢◌, ◌⊎◌, ℕ, zero, suc, ◌+◌, ◌%◌, false, List, [], ◌∷◌, ◌++◌, set, length, refl, sym, ◌∙◌, ap, subst, ⊎_elim, inl, inr, arith}
use Rattle.std.proofs.lemmas.Bool.{true≢false}
use Rattle.std.proofs.lemmas.List.Sums.{sum_by_push}
use Rattle.std.proofs.lemmas.List.{length-set}
use Rattle.std.specs.Prelude.{slice_index}
use mathlib.Core.Option.{some, some-injective, some-ne-none}
use lib.ListN.{get_elem?}
use Rattle.atomic_table.specs.Table.{State, Me, Enters, Splits, Joins, keeps, Allows}
use Rattle.atomic_table.proofs.Lists.{at_set, set_else}
use Rattle.sf_lists.specs.Functions.{put}
use Rattle.sf_lists.proofs.Functions.{put_here, put_else}
use Rattle.sf_keyed_tells.specs.Tells.{KeyedEvent}
use Rattle.sf_keyed_laws.specs.Words.{Words}
use Rattle.sf_keyed_words.specs.declared.rule.KeyedSizes.{KeyedSizes}
use Rattle.sf_keyed_words.specs.declared.rule.View.{View}
use Rattle.sf_keyed_words.specs.Rule.{state_at, IsLeads, IsView, IsPrefix, stake, held_at, first_view, KeyedTable, Holds}
use Rattle.sf_keyed_words.specs.Moves.{without_flight, flight_of, without_ticket, ticket_of, with_note, with_flight, with_ticket, spent, has_entered, has_heard}
use Rattle.sf_keyed_words.proofs.Seats.{seats_set, sum_set, still, view_away, Away}
use Rattle.sf_keyed_words.proofs.States.{own_never, last_never, whole}

-- where a list has one more at its end
at_end : {A : Type 0} → (l : List A) (a b : A) (j : ℕ) → get_elem? (l ++ a ∷ []) j ≡ some b → (get_elem? l j ≡ some b) ⊎ ((j ≡ length l) × (a ≡ b))
at_end [] a b zero e = inr (refl, some-injective a b e)
at_end [] a b (suc j) e = absurd (some-ne-none b (sym e))
at_end (x ∷ xs) a b zero e = inl e
at_end (x ∷ xs) a b (suc j) e = ⊎_elim (λ there. inl there) (λ same. inr (ap suc same.0, same.1)) (at_end xs a b j e)

fair : (s l p a b v : ℕ) → p ≡ l + b → l + v ≡ s + a → a + b ≡ v → s ≡ p
fair s l p a b v x y e = omega arith

-- the table after a view is cut in two
cut : (z : KeyedSizes) (t : State ℕ View) (p : KeyedTable z t) (id : ℕ) (v left right : View) (holder2 : ℕ → ℕ) → get_elem? t.views id ≡ some v
    → ((c : ℕ) → stake c left + stake c right ≡ stake c v)
    → ((k : ℕ) (u : View) → k ≢ id → get_elem? t.views k ≡ some u → IsView z p.words p.history t.words holder2 k u)
    → IsView z p.words p.history t.words holder2 id left
    → IsView z p.words p.history t.words holder2 (length t.views) right
    → KeyedTable z (record { words = t.words; homes = t.homes; views = set t.views id left ++ right ∷ [] })
cut z t p id v left right holder2 is stakes others mine new = record {
  words = p.words;
  history = p.history;
  holder = holder2;
  keeps = p.keeps;
  tells = p.tells;
  members = p.members;
  shows = p.shows;
  counts = λ c lt. p.counts c lt ∙ fair _ _ _ (stake c left) (stake c right) (stake c v) (sum_by_push (stake c) (set t.views id left) right) (sum_set (stake c) t.views id v left is) (stakes c);
  seats = λ k u at. ⊎_elim
      (λ there. seats_set (IsView z p.words p.history t.words holder2) t.views id left others mine k u there)
      (λ (same : (k ≡ length (set t.views id left)) × (right ≡ u)). subst (IsView z p.words p.history t.words holder2 k) same.1 (subst (λ j. IsView z p.words p.history t.words holder2 j right) (sym (same.0 ∙ length-set t.views id left)) new))
      (at_end (set t.views id left) right u k at);
}

fair2 : (s l m a b v w : ℕ) → l + v ≡ s + a → m + w ≡ l + b → a + b ≡ v + w → s ≡ m
fair2 s l m a b v w x y e = omega arith

-- the table after two views are joined
joined_views : (z : KeyedSizes) (t : State ℕ View) (p : KeyedTable z t) (id : ℕ) (v : View) (other : ℕ) (w both rest : View) (holder2 : ℕ → ℕ) → get_elem? t.views id ≡ some v
    → get_elem? (set t.views id both) other ≡ some w
    → ((c : ℕ) → stake c both + stake c rest ≡ stake c v + stake c w)
    → ((k : ℕ) (u : View) → k ≢ id → k ≢ other → get_elem? t.views k ≡ some u → IsView z p.words p.history t.words holder2 k u)
    → IsView z p.words p.history t.words holder2 id both
    → IsView z p.words p.history t.words holder2 other rest
    → KeyedTable z (record { words = t.words; homes = t.homes; views = set (set t.views id both) other rest })
joined_views z t p id v other w both rest holder2 is there stakes others mine theirs = record {
  words = p.words;
  history = p.history;
  holder = holder2;
  keeps = p.keeps;
  tells = p.tells;
  members = p.members;
  shows = p.shows;
  counts = λ c lt. p.counts c lt ∙ fair2 _ _ _ (stake c both) (stake c rest) (stake c v) (stake c w) (sum_set (stake c) t.views id v both is) (sum_set (stake c) (set t.views id both) other w rest there) (stakes c);
  seats = seats_set (IsView z p.words p.history t.words holder2) (set t.views id both) other rest
      (λ k u apart at. ⊎_elim
      (λ (a : (k ≡ id) × (both ≡ u)). subst (IsView z p.words p.history t.words holder2 k) a.1 (subst (λ j. IsView z p.words p.history t.words holder2 j both) (sym a.0) mine))
      (λ (a : (k ≢ id) × (get_elem? t.views k ≡ some u)). others k u a.0 apart a.1)
      (at_set t.views id k both u at))
      theirs;
}

-- a view that knows nothing but a history
pub bare : (z : KeyedSizes) (s : Words) (h : List KeyedEvent) (ws : List ℕ) (holder : ℕ → ℕ) (k : ℕ) (y : KeyedSizes) (seen : List KeyedEvent) → IsPrefix seen h → IsView z s h ws holder k (record (first_view y) { seen = seen })
bare z s h ws holder k y seen is = record {
  seen = is;
  heard = (h, refl);
  look = record {
    top = λ any. absurd (any refl);
    but = λ any. absurd (any refl);
    clear = λ no. absurd (true≢false (sym no));
    dead = λ no. absurd (true≢false (sym no));
    half = λ no. absurd (true≢false (sym no));
    told = λ no. absurd (true≢false (sym no));
    gone = λ k no. absurd (true≢false (sym no));
  };
  walk = λ no. absurd (true≢false (sym no));
  own = λ any. absurd (any refl);
  begun = λ any. absurd (any refl);
  leads = λ any. absurd (any refl);
  ticket = λ any. absurd (any refl);
  last = λ any. absurd (any refl);
}

-- the cell c has another seat for its holder
rehoused : (z : KeyedSizes) (s : Words) (h : List KeyedEvent) (ws : List ℕ) (holder : ℕ → ℕ) (c n : ℕ) → Away z s s h h ws ws holder (put holder c n) c
rehoused z s h ws holder c n = record {
  state = λ _ _ _. refl;
  name = λ _ _ _. refl;
  high = λ _ _ _. refl;
  value = λ _ _ _. refl;
  holder_is = λ i apart. put_else holder c n i apart;
  led = λ _ _. refl;
  settled = λ _ _ before. before;
  entered = λ _ _. refl;
}

-- a view without the call that it leads knows of the rest what it knew, whoever has that call's cell
unflown : (z : KeyedSizes) (t : State ℕ View) (p : KeyedTable z t) (k : ℕ) (u : View) (e n : ℕ) → IsLeads z p.words p.history t.words p.holder n e false 0 → (k2 : ℕ) → (u.leads ≢ 0 → u.leads % 1048576 ≡ e % 1048576 → ⊥)
    → IsView z p.words p.history t.words p.holder k u → IsView z p.words p.history t.words (put p.holder (e % 1048576) k2) k u
unflown z t p k u e n lead k2 none m =
    let s = p.words in
    let h = p.history in
    let c : ℕ = e % 1048576 in
    let even = lead.runs in
    view_away z s s h h t.words t.words p.holder (put p.holder c k2) c k u (rehoused z s h t.words p.holder c k2) (whole h) (λ l. l) (λ _ l. l)
    (λ any here o. own_never z s t.words p.holder k u.own u.named u.key (slice_index t.words (state_at z e)) e c refl lead.generation refl lead.led here o)
    (λ any here o. absurd (none any here))
    (λ any here o. o)
    (λ any here o. last_never z p.words t.words p.holder k u.last (slice_index t.words (state_at z e)) c refl (λ odd none. omega (arith, even, odd)) here o)
    m

-- the same fact with nothing said of a value
unvalued : (z : KeyedSizes) (s : Words) (h : List KeyedEvent) (ws : List ℕ) (holder : ℕ → ℕ) (k e : ℕ) (stored : _) (value : ℕ) → IsLeads z s h ws holder k e stored value → IsLeads z s h ws holder k e false 0
unvalued z s h ws holder k e stored value o = record { led = o.led; holder_is = o.holder_is; within = o.within; generation = o.generation; runs = o.runs; unsettled = o.unsettled; value_is = λ no. absurd (true≢false (sym no)); joins = o.joins }

-- who leads a call whose cell is another's is nobody else
lone : (z : KeyedSizes) (s : Words) (h : List KeyedEvent) (ws : List ℕ) (holder : ℕ → ℕ) (k id e f : ℕ) (stored : _) (value : ℕ) → holder (e % 1048576) ≡ id → k ≢ id → IsLeads z s h ws holder k f stored value → f % 1048576 ≡ e % 1048576 → ⊥
lone z s h ws holder k id e f stored value held apart o here = apart (sym o.holder_is ∙ (ap holder here ∙ held))

-- the call that a seat leads goes to a new seat
pub splits_flight : (z : KeyedSizes) (id : ℕ) (v : View) → v.leads ≢ 0 → Splits {S = ℕ} (Holds z) id v (without_flight v) (flight_of v)
splits_flight z id v any t p is =
    let s = p.words in
    let h = p.history in
    let m = p.seats id v is in
    let e : ℕ = v.leads in
    let c : ℕ = e % 1048576 in
    let n : ℕ = length t.views in
    let lead = m.leads any in
    let plain = unvalued z s h t.words p.holder id e v.stored v.value lead in
    let holder2 : ℕ → ℕ = put p.holder c n in
    let note = bare z s h t.words holder2 n v.sizes v.seen m.seen in
    cut z t p id v (without_flight v) (flight_of v) holder2 is
    (λ d. let a : held_at d 0 ≡ 0 = refl in omega (arith, a))
    (λ k u apart at. let view = p.seats k u at in unflown z t p k u e id plain n (λ some here. lone z s h t.words p.holder k id e u.leads u.stored u.value lead.holder_is apart (view.leads some) here) view)
    (unflown z t p id (without_flight v) e id plain n (λ some. absurd (some refl))
    (record { seen = m.seen; heard = m.heard; look = m.look; walk = m.walk; own = m.own; begun = m.begun; leads = λ no. absurd (no refl); ticket = m.ticket; last = m.last }))
    (record {
      seen = note.seen;
      heard = note.heard;
      look = note.look;
      walk = note.walk;
      own = note.own;
      begun = note.begun;
      leads = λ _. record {
        led = lead.led;
        holder_is = put_here p.holder c n;
        within = lead.within;
        generation = lead.generation;
        runs = lead.runs;
        unsettled = lead.unsettled;
        value_is = lead.value_is;
        joins = lead.joins;
      };
      ticket = note.ticket;
      last = note.last;
    })

-- so does the one that it is a holder of
pub splits_ticket : (z : KeyedSizes) (id : ℕ) (v : View) → Splits {S = ℕ} (Holds z) id v (without_ticket v) (ticket_of v)
splits_ticket z id v t p is =
    let m = p.seats id v is in
    let note = bare z p.words p.history t.words p.holder (length t.views) v.sizes v.seen m.seen in
    cut z t p id v (without_ticket v) (ticket_of v) p.holder is
    (λ d. let a : held_at d 0 ≡ 0 = refl in omega (arith, a))
    (λ k u apart at. p.seats k u at)
    (record { seen = m.seen; heard = m.heard; look = m.look; walk = m.walk; own = m.own; begun = m.begun; leads = m.leads; ticket = λ no. absurd (no refl); last = m.last })
    (record { seen = note.seen; heard = note.heard; look = note.look; walk = note.walk; own = note.own; begun = note.begun; leads = note.leads; ticket = m.ticket; last = note.last })

apart_else : (t : State ℕ View) (id other : ℕ) (both w : View) → ((other ≡ id) → ⊥) → get_elem? (set t.views id both) other ≡ some w → get_elem? t.views other ≡ some w
apart_else t id other both w apart there = sym (set_else t.views id other both apart) ∙ there

-- a seat hears what another has seen, that has nothing
pub joins_note : (z : KeyedSizes) (id : ℕ) (v : View) (other : ℕ) (w : View) → w.own ≡ 0 → w.leads ≡ 0 → w.ticket ≡ 0 → Joins {S = ℕ} (Holds z) id v other w (with_note v w) spent
joins_note z id v other w no_own no_lead no_ticket t p is apart there =
    let m = p.seats id v is in
    let o = p.seats other w (apart_else t id other (with_note v w) w apart there) in
    joined_views z t p id v other w (with_note v w) spent p.holder is there
    (λ d. let a : held_at d 0 ≡ 0 = refl in let b : held_at d w.own ≡ 0 = ap (held_at d) no_own in let c : held_at d w.leads ≡ 0 = ap (held_at d) no_lead in let f : held_at d w.ticket ≡ 0 = ap (held_at d) no_ticket in omega (arith, a, b, c, f))
    (λ k u _ _ at. p.seats k u at)
    (record { seen = m.seen; heard = o.seen; look = m.look; walk = m.walk; own = m.own; begun = m.begun; leads = m.leads; ticket = m.ticket; last = m.last })
    (bare z p.words p.history t.words p.holder other _ [] (p.history, refl))

-- a seat takes over the call that another is a holder of
pub joins_ticket : (z : KeyedSizes) (id : ℕ) (v : View) (other : ℕ) (w : View) → v.ticket ≡ 0 → w.own ≡ 0 → w.leads ≡ 0 → Joins {S = ℕ} (Holds z) id v other w (with_ticket v w) spent
joins_ticket z id v other w idle no_own no_lead t p is apart there =
    let m = p.seats id v is in
    let o = p.seats other w (apart_else t id other (with_ticket v w) w apart there) in
    joined_views z t p id v other w (with_ticket v w) spent p.holder is there
    (λ d. let a : held_at d 0 ≡ 0 = refl in let b : held_at d w.own ≡ 0 = ap (held_at d) no_own in let c : held_at d w.leads ≡ 0 = ap (held_at d) no_lead in let f : held_at d v.ticket ≡ 0 = ap (held_at d) idle in omega (arith, a, b, c, f))
    (λ k u _ _ at. p.seats k u at)
    (record { seen = m.seen; heard = o.seen; look = m.look; walk = m.walk; own = m.own; begun = m.begun; leads = m.leads; ticket = o.ticket; last = m.last })
    (bare z p.words p.history t.words p.holder other _ [] (p.history, refl))

-- a seat takes over the call that another leads
pub joins_flight : (z : KeyedSizes) (id : ℕ) (v : View) (other : ℕ) (w : View) → v.leads ≡ 0 → w.own ≡ 0 → w.leads ≢ 0 → w.ticket ≡ 0 → Joins {S = ℕ} (Holds z) id v other w (with_flight v w) spent
joins_flight z id v other w idle no_own any no_ticket t p is apart there =
    let s = p.words in
    let h = p.history in
    let m = p.seats id v is in
    let o = p.seats other w (apart_else t id other (with_flight v w) w apart there) in
    let e : ℕ = w.leads in
    let c : ℕ = e % 1048576 in
    let lead = o.leads any in
    let plain = unvalued z s h t.words p.holder other e w.stored w.value lead in
    let holder2 : ℕ → ℕ = put p.holder c id in
    let none : v.leads ≢ 0 → v.leads % 1048576 ≡ c → ⊥ = λ some here. some idle in
    let mine = unflown z t p id v e other plain id none m in
    joined_views z t p id v other w (with_flight v w) spent holder2 is there
    (λ d. let a : held_at d 0 ≡ 0 = refl in let b : held_at d w.own ≡ 0 = ap (held_at d) no_own in let f : held_at d w.ticket ≡ 0 = ap (held_at d) no_ticket in let g : held_at d v.leads ≡ 0 = ap (held_at d) idle in omega (arith, a, b, f, g))
    (λ k u _ away at. let view = p.seats k u at in unflown z t p k u e other plain id (λ some here. lone z s h t.words p.holder k other e u.leads u.stored u.value lead.holder_is away (view.leads some) here) view)
    (record {
      seen = mine.seen;
      heard = o.seen;
      look = mine.look;
      walk = mine.walk;
      own = mine.own;
      begun = mine.begun;
      leads = λ _. record {
        led = lead.led;
        holder_is = put_here p.holder c id;
        within = lead.within;
        generation = lead.generation;
        runs = lead.runs;
        unsettled = lead.unsettled;
        value_is = lead.value_is;
        joins = lead.joins;
      };
      ticket = mine.ticket;
      last = mine.last;
    })
    (bare z s h t.words holder2 other _ [] (h, refl))

-- a load after which a seat has seen what it heard
pub hears : (z : KeyedSizes) (slots id i : ℕ) (me : Me ℕ View) → Allows (Holds z) slots id me i (λ n. n) (λ n after. has_heard me.0 after.0)
hears z slots id i me t p len is fits =
    let v = me.0 in
    let m = p.seats id v is in
    let w : View = record v { seen = p.history } in (
      w,
      keeps,
      tt,
      still z t p id i me w is (λ d. refl)
          (record { seen = whole p.history; heard = m.heard; look = m.look; walk = m.walk; own = m.own; begun = m.begun; leads = m.leads; ticket = m.ticket; last = m.last }),
      record { view = refl; seen = m.seen; heard = m.heard; legal = p.tells.legal; gone = λ k is. p.tells.shuts k (m.look.gone k is).none },
    )

empty_stake : (a b n : ℕ) → a ≡ b → a ≡ b + 0
empty_stake a b n is = omega (arith, is)

-- a load by which a new seat has seen all that has happened
pub enters : (z : KeyedSizes) (slots i : ℕ) → Enters (Holds z) slots i (λ n w. has_entered (first_view z) w)
enters z slots i t p len fits =
    let w : View = record (first_view z) { seen = p.history } in (
      w,
      record {
        words = p.words;
        history = p.history;
        holder = p.holder;
        keeps = p.keeps;
        tells = p.tells;
        members = p.members;
        shows = p.shows;
        counts = λ c lt. empty_stake _ _ 0 (p.counts c lt) ∙ sym (sum_by_push (stake c) t.views w);
        seats = λ k u at. ⊎_elim
            (λ there. p.seats k u there)
            (λ (same : (k ≡ length t.views) × (w ≡ u)). subst (IsView z p.words p.history t.words p.holder k) same.1 (bare z p.words p.history t.words p.holder k z p.history (whole p.history)))
            (at_end t.views w u k at);
      },
      record { view = refl; legal = p.tells.legal },
    )
