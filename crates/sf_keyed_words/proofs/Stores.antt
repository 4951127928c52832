-- Stores of a name and of a value.
use Rattle.std.proofs.Common.{◌*◌, ◌≡◌, ◌≢◌, ℕ, ◌+◌, ◌/◌, ◌%◌, ◌<◌, ◌≤◌, Bool, true, false, List, Some, set, refl, sym, ◌∙◌, ap, subst, arith}
use Rattle.std.proofs.lemmas.Bool.{true≢false}
use Rattle.std.specs.Prelude.{slice_index}
use mathlib.Core.Logic.{dite}
use native.Mathlib.Decide.{ℕ_discrete}
use Rattle.atomic_table.specs.Table.{Me, keeps, Allows}
use Rattle.sf_keyed_tells.specs.Tells.{KeyedEvent}
use Rattle.sf_keyed_laws.specs.Words.{Words}
use Rattle.sf_keyed_words.specs.declared.rule.KeyedSizes.{KeyedSizes}
use Rattle.sf_keyed_words.specs.declared.rule.View.{View}
use Rattle.sf_keyed_words.specs.Rule.{side_at, state_at, name_at, high_at, both, NameIs, value_at, gen_of, held_of, is_open_word, IsOwn, IsLeads, IsView, stake, Holds}
use Rattle.sf_keyed_words.proofs.Seats.{name_kept, made, still, view_away, Away}
use Rattle.sf_keyed_words.proofs.Results.{says_on}
use Rattle.sf_keyed_words.proofs.States.{own_never, last_never, whole, one_call, open_parts, ready_gen, ready_tag}
use Rattle.std.proofs.lemmas.List.{length-set, get_or-set_same, get_or-set_other}
use Rattle.sf_keyed_words.specs.Plays.{begun_as, named_as, stored_as}

-- a view without its own call, and one without the call that it leads
abbrev pub unowned : View → View
unowned v = record v { own = 0; first = false; named = false }

pub unowned_view : (z : KeyedSizes) (s : Words) (h : List KeyedEvent) (ws : List ℕ) (holder : ℕ → ℕ) (k : ℕ) (v : View) → IsView z s h ws holder k v → IsView z s h ws holder k (unowned v)
unowned_view z s h ws holder k v m = record { seen = m.seen; heard = m.heard; look = m.look; walk = m.walk; own = λ no. absurd (no refl); begun = λ no. absurd (no refl); leads = m.leads; ticket = m.ticket; last = m.last }

abbrev unled : View → View
unled v = record v { leads = 0; stored = false }

unled_view : (z : KeyedSizes) (s : Words) (h : List KeyedEvent) (ws : List ℕ) (holder : ℕ → ℕ) (k : ℕ) (v : View) → IsView z s h ws holder k v → IsView z s h ws holder k (unled v)
unled_view z s h ws holder k v m = record { seen = m.seen; heard = m.heard; look = m.look; walk = m.walk; own = m.own; begun = m.begun; leads = λ no. absurd (no refl); ticket = m.ticket; last = m.last }

-- the words after the word at this place of the own cell becomes x
pub record NameSet (z : KeyedSizes) (ws ws2 : List ℕ) (i x : ℕ) : Type 0 where
  pub here : slice_index ws2 i ≡ x
  pub else : (j : ℕ) → j ≢ i → slice_index ws2 j ≡ slice_index ws j

-- a word of the own call's name is stored, and the view says of the name what it may say then
stores_name : (z : KeyedSizes) (slots id at key : ℕ) (me : Me ℕ View) (first : Bool) (start : ℕ) (named : Bool) (name : ℕ) → me.0.own ≢ 0 → 1 ≤ at → at ≤ 2
    → ((ws ws2 : List ℕ) → NameSet z ws ws2 (z.tops + z.sides + 8 * (me.0.own % 1048576) + at) key → (me.0.first ≡ true → (slice_index ws (name_at z me.0.own) ≡ me.0.start) × (me.0.start < 18446744073709551616))
    → (first ≡ true → (slice_index ws2 (name_at z me.0.own) ≡ start) × (start < 18446744073709551616)) × (named ≡ true → NameIs z ws2 me.0.own name))
    → Allows (Holds z) slots id me (z.tops + z.sides + 8 * (me.0.own % 1048576) + at) (λ _. key) (λ _ after. after.0 ≡ record me.0 { first = first; start = start; named = named; key = name })
stores_name z slots id at key me first start named name any_own least most says t p len is fits =
    let v = me.0 in
    let s = p.words in
    let h = p.history in
    let m = p.seats id v is in
    let e : ℕ = v.own in
    let c : ℕ = e % 1048576 in
    let i : ℕ = z.tops + z.sides + 8 * c + at in
    let own = m.own any_own in
    let cell = own.within in
    let size = p.shows.size in
    let ws : List ℕ = set t.words i key in
    let else : (j : ℕ) → j ≢ i → slice_index ws j ≡ slice_index t.words j = λ j d. get_or-set_other t.words i j key 0 d in
    let here_is : slice_index ws i ≡ key = get_or-set_same t.words i key 0 (omega (arith, most, cell, size)) in
    let states : (d : ℕ) → d % 1048576 < z.cells → slice_index ws (state_at z d) ≡ slice_index t.words (state_at z d) = λ d lt. else (state_at z d) (λ q. omega (arith, lt, least, most, q)) in
    let values : (d : ℕ) → slice_index ws (value_at z d) ≡ slice_index t.words (value_at z d) = λ d. else (value_at z d) (λ q. omega (arith, cell, least, most, q)) in
    let others : (d : ℕ) → d % 1048576 ≢ c → slice_index ws (name_at z d) ≡ slice_index t.words (name_at z d) = λ d apart. else (name_at z d) (λ q. apart (omega (arith, least, most, q))) in
    let highs : (d : ℕ) → d % 1048576 ≢ c → slice_index ws (high_at z d) ≡ slice_index t.words (high_at z d) = λ d apart. else (high_at z d) (λ q. apart (omega (arith, least, most, q))) in
    let said = says t.words ws (record { here = here_is; else = else }) (m.begun any_own) in
    let gen : slice_index t.words (state_at z e) / 8388608 ≡ e / 1048576 = ap gen_of own.state ∙ ready_gen e in
    let tag : slice_index t.words (state_at z e) / 2097152 % 4 ≡ 2 = ap (λ n. n / 2097152 % 4) own.state ∙ ready_tag e in
    let at_cell : (d : ℕ) → d % 1048576 ≡ c → slice_index t.words (state_at z d) ≡ slice_index t.words (state_at z e) = λ d here. ap (λ q. slice_index t.words (z.tops + z.sides + 8 * q)) here in
    let away : Away z s s h h t.words ws p.holder p.holder c = record {
      state = λ d lt _. states d lt;
      name = λ d _ apart. others d apart;
      high = λ d _ apart. highs d apart;
      value = λ d _ _. values d;
      holder_is = λ j _. refl;
      led = λ d _. refl;
      settled = λ d _ before. before;
      entered = λ d _. refl;
    } in
    let far : (k : ℕ) (u : View) → (u.own ≢ 0 → u.own % 1048576 ≡ c → IsOwn z s t.words p.holder k u.own u.named u.key → ⊥) → IsView z s h t.words p.holder k u → IsView z s h ws p.holder k u
    = λ k u one view. view_away z s s h h t.words ws p.holder p.holder c k u away (whole h) (λ l. l) (λ _ l. l)
    one
    (λ any here o. record {
      led = o.led;
      holder_is = o.holder_is;
      within = o.within;
      generation = ap gen_of (states u.leads o.within) ∙ o.generation;
      runs = ap (λ n. n / 2097152 % 4 % 2) (states u.leads o.within) ∙ o.runs;
      unsettled = o.unsettled;
      value_is = λ yes. values u.leads ∙ o.value_is yes;
      joins = says_on h h u.leads _ _ (ap (λ n. n / 1048576 % 2) (states u.leads o.within)) refl o.joins;
    })
    (λ any here o. record {
      led = o.led;
      within = o.within;
      generation = ap gen_of (states u.ticket o.within) ∙ o.generation;
      settled = λ yes. ap (λ n. n / 2097152 % 4 % 2) (states u.ticket o.within) ∙ o.settled yes;
    })
    (λ any here o. last_never z p.words t.words p.holder k u.last _ c refl (λ odd none. omega (arith, tag, odd)) here o)
    view in
    let mine = far id (unowned v) (λ any here o. any refl) (unowned_view z s h t.words p.holder id v m) in
    let w : View = record v { first = first; start = start; named = named; key = name } in (
      w,
      keeps,
      tt,
      made z t p id i key me w s h p.holder p.keeps p.tells p.members
          (record {
            size = length-set t.words i key ∙ size;
            tops = λ k lt. ap (λ n. n / 4) (else k (λ q. omega (arith, lt, least, most, q))) ∙ p.shows.tops k lt;
            sides = λ k lt. ap (λ n. n / 4) (else (side_at z k) (λ q. omega (arith, lt, least, most, q))) ∙ p.shows.sides k lt;
            within = p.shows.within;
            live = λ d led live. let l = p.shows.live d led live in let inside = p.shows.within d led in (
              ap (λ n. is_open_word n d) (states d inside) ∙ l.0,
              dite (ℕ_discrete (d % 1048576) c)
                  (λ here. let o = open_parts _ d l.0 in let g : slice_index t.words (state_at z e) / 8388608 ≡ d / 1048576 = sym (ap gen_of (at_cell d here)) ∙ o.0 in
                  absurd (true≢false (sym led ∙ (ap s.led (one_call d e c _ here refl g gen) ∙ own.new))))
                  (λ apart. name_kept z t.words ws d (s.key_of d) (others d apart) (highs d apart) l.1),
            );
            shut = λ d led shut. ap (λ n. is_open_word n d) (states d (p.shows.within d led)) ∙ p.shows.shut d led shut;
            only = p.shows.only;
            coming = λ d inside later. p.shows.coming d inside (subst (λ n. n / 8388608 < d / 1048576) (states d inside) later);
            seals = λ k lt yes. ap (λ n. n / 2 % 2) (else k (λ q. omega (arith, lt, least, most, q))) ∙ p.shows.seals k lt yes;
            bits = λ k lt yes. p.shows.bits k lt (sym (ap (λ n. n / 2 % 2) (else k (λ q. omega (arith, lt, least, most, q)))) ∙ yes);
            marks = λ k lt even. p.shows.marks k lt (sym (ap (λ n. n % 2) (else k (λ q. omega (arith, lt, least, most, q)))) ∙ even);
            values = λ d led g odd. let inside = p.shows.within d led in p.shows.values d led (sym (ap gen_of (states d inside)) ∙ g) (sym (ap (λ n. n / 2097152 % 4 % 2) (states d inside)) ∙ odd) ∙ ap (λ n. Some (Some n)) (sym (values d));
          })
          is
          (λ d lt. ap (λ n. held_of n + stake d v) (else (z.tops + z.sides + 8 * d) (λ q. omega (arith, lt, least, most, q))))
          (λ k u apart at. far k u (λ any here o. apart (sym o.holder_is ∙ (ap p.holder here ∙ own.holder_is))) (p.seats k u at))
          (record {
            seen = mine.seen;
            heard = mine.heard;
            look = mine.look;
            walk = mine.walk;
            own = λ any. record {
              new = own.new;
              holder_is = own.holder_is;
              within = own.within;
              state = states e cell ∙ own.state;
              name = said.1;
            };
            begun = λ _. said.0;
            leads = mine.leads;
            ticket = mine.ticket;
            last = mine.last;
          }),
      refl,
    )

-- the lower word
pub begins : (z : KeyedSizes) (slots id low : ℕ) (me : Me ℕ View) → me.0.own ≢ 0 → low < 18446744073709551616 → Allows (Holds z) slots id me (name_at z me.0.own) (λ _. low) (λ _ after. after.0 ≡ begun_as me.0 low)
begins z slots id low me any_own small = stores_name z slots id 1 low me true low false me.0.key any_own (omega arith) (omega arith)
    (λ ws ws2 set was. (λ _. (set.here, small), λ no. absurd (true≢false (sym no))))

-- and the upper one
pub names : (z : KeyedSizes) (slots id high : ℕ) (me : Me ℕ View) → me.0.own ≢ 0 → me.0.first ≡ true → Allows (Holds z) slots id me (high_at z me.0.own) (λ _. high) (λ _ after. after.0 ≡ named_as me.0 high)
names z slots id high me any_own begun = stores_name z slots id 2 high me me.0.first me.0.start true (both me.0.start high) any_own (omega arith) (omega arith)
    (λ ws ws2 set was.
    let b = was begun in
    let small = b.1 in
    let low : slice_index ws2 (name_at z me.0.own) ≡ me.0.start = set.else (name_at z me.0.own) (λ q. omega (arith, q)) ∙ b.0 in
    (λ _. (low, small), λ _. record { low = low ∙ omega (arith, small); high = set.here ∙ omega (arith, small) }))

-- a load of the own cell's lower word, which is its name's as if it were stored anew
pub finds_low : (z : KeyedSizes) (slots id : ℕ) (me : Me ℕ View) → me.0.own ≢ 0 → Allows (Holds z) slots id me (name_at z me.0.own) (λ n. n) (λ n after. after.0 ≡ begun_as me.0 n)
finds_low z slots id me any_own t p len is fits =
    let v = me.0 in
    let m = p.seats id v is in
    let own = m.own any_own in
    let i : ℕ = name_at z v.own in
    let w : View = begun_as v (slice_index t.words i) in (
      w,
      keeps,
      tt,
      still z t p id i me w is (λ c. refl) (record {
        seen = m.seen;
        heard = m.heard;
        look = m.look;
        walk = m.walk;
        own = λ _. record { new = own.new; holder_is = own.holder_is; within = own.within; state = own.state; name = λ no. absurd (true≢false (sym no)) };
        begun = λ _ _. (refl, fits);
        leads = m.leads;
        ticket = m.ticket;
        last = m.last;
      }),
      refl,
    )

-- and of the upper one
pub finds_high : (z : KeyedSizes) (slots id : ℕ) (me : Me ℕ View) → me.0.own ≢ 0 → me.0.first ≡ true → Allows (Holds z) slots id me (high_at z me.0.own) (λ n. n) (λ n after. after.0 ≡ named_as me.0 n)
finds_high z slots id me any_own first t p len is fits =
    let v = me.0 in
    let m = p.seats id v is in
    let own = m.own any_own in
    let begun = m.begun any_own first in
    let small = begun.1 in
    let i : ℕ = high_at z v.own in
    let n : ℕ = slice_index t.words i in
    let w : View = named_as v n in (
      w,
      keeps,
      tt,
      still z t p id i me w is (λ c. refl) (record {
        seen = m.seen;
        heard = m.heard;
        look = m.look;
        walk = m.walk;
        own = λ _. record {
          new = own.new;
          holder_is = own.holder_is;
          within = own.within;
          state = own.state;
          name = λ _. record { low = begun.0 ∙ omega (arith, small); high = omega (arith, small) };
        };
        begun = m.begun;
        leads = m.leads;
        ticket = m.ticket;
        last = m.last;
      }),
      refl,
    )

pub stores : (z : KeyedSizes) (slots id value : ℕ) (me : Me ℕ View) → me.0.leads ≢ 0 → Allows (Holds z) slots id me (value_at z me.0.leads) (λ _. value) (λ _ after. after.0 ≡ stored_as me.0 value)
stores z slots id value me any_lead t p len is fits =
    let v = me.0 in
    let s = p.words in
    let h = p.history in
    let m = p.seats id v is in
    let e : ℕ = v.leads in
    let c : ℕ = e % 1048576 in
    let i : ℕ = value_at z e in
    let lead = m.leads any_lead in
    let cell = lead.within in
    let size = p.shows.size in
    let ws : List ℕ = set t.words i value in
    let else : (j : ℕ) → j ≢ i → slice_index ws j ≡ slice_index t.words j = λ j d. get_or-set_other t.words i j value 0 d in
    let here_is : slice_index ws i ≡ value = get_or-set_same t.words i value 0 (omega arith) in
    let states : (d : ℕ) → d % 1048576 < z.cells → slice_index ws (state_at z d) ≡ slice_index t.words (state_at z d) = λ d lt. else (state_at z d) (λ q. omega (arith, lt, q)) in
    let names : (d : ℕ) → d % 1048576 < z.cells → slice_index ws (name_at z d) ≡ slice_index t.words (name_at z d) = λ d lt. else (name_at z d) (λ q. omega (arith, lt, q)) in
    let highs : (d : ℕ) → d % 1048576 < z.cells → slice_index ws (high_at z d) ≡ slice_index t.words (high_at z d) = λ d lt. else (high_at z d) (λ q. omega (arith, lt, q)) in
    let others : (d : ℕ) → d % 1048576 ≢ c → slice_index ws (value_at z d) ≡ slice_index t.words (value_at z d) = λ d apart. else (value_at z d) (λ q. apart (omega (arith, q))) in
    let even = lead.runs in
    let at_cell : (d : ℕ) → d % 1048576 ≡ c → slice_index t.words (state_at z d) ≡ slice_index t.words (state_at z e) = λ d here. ap (λ q. slice_index t.words (z.tops + z.sides + 8 * q)) here in
    let away : Away z s s h h t.words ws p.holder p.holder c = record {
      state = λ d lt _. states d lt;
      name = λ d lt _. names d lt;
      high = λ d lt _. highs d lt;
      value = λ d _ apart. others d apart;
      holder_is = λ j _. refl;
      led = λ d _. refl;
      settled = λ d _ before. before;
      entered = λ d _. refl;
    } in
    let far : (k : ℕ) (u : View) → (u.leads ≢ 0 → u.leads % 1048576 ≡ c → IsLeads z s h t.words p.holder k u.leads u.stored u.value → ⊥) → IsView z s h t.words p.holder k u → IsView z s h ws p.holder k u
    = λ k u one view. view_away z s s h h t.words ws p.holder p.holder c k u away (whole h) (λ l. l) (λ _ l. l)
    (λ any here o. own_never z s t.words p.holder k u.own u.named u.key _ e c refl lead.generation refl lead.led here o)
    (λ any here o. absurd (one any here o))
    (λ any here o. record {
      led = o.led;
      within = o.within;
      generation = ap gen_of (states u.ticket o.within) ∙ o.generation;
      settled = λ yes. ap (λ n. n / 2097152 % 4 % 2) (states u.ticket o.within) ∙ o.settled yes;
    })
    (λ any here o. last_never z p.words t.words p.holder k u.last _ c refl (λ odd none. omega (arith, even, odd)) here o)
    view in
    let mine = far id (unled v) (λ any here o. any refl) (unled_view z s h t.words p.holder id v m) in
    let w : View = stored_as v value in (
      w,
      keeps,
      tt,
      made z t p id i value me w s h p.holder p.keeps p.tells p.members
          (record {
            size = length-set t.words i value ∙ size;
            tops = λ k lt. ap (λ n. n / 4) (else k (λ q. omega (arith, lt, q))) ∙ p.shows.tops k lt;
            sides = λ k lt. ap (λ n. n / 4) (else (side_at z k) (λ q. omega (arith, lt, q))) ∙ p.shows.sides k lt;
            within = p.shows.within;
            live = λ d led live. let l = p.shows.live d led live in let inside = p.shows.within d led in (ap (λ n. is_open_word n d) (states d inside) ∙ l.0, name_kept z t.words ws d (s.key_of d) (names d inside) (highs d inside) l.1);
            shut = λ d led shut. ap (λ n. is_open_word n d) (states d (p.shows.within d led)) ∙ p.shows.shut d led shut;
            only = p.shows.only;
            coming = λ d inside later. p.shows.coming d inside (subst (λ n. n / 8388608 < d / 1048576) (states d inside) later);
            seals = λ k lt yes. ap (λ n. n / 2 % 2) (else k (λ q. omega (arith, lt, q))) ∙ p.shows.seals k lt yes;
            bits = λ k lt yes. p.shows.bits k lt (sym (ap (λ n. n / 2 % 2) (else k (λ q. omega (arith, lt, q)))) ∙ yes);
            marks = λ k lt even. p.shows.marks k lt (sym (ap (λ n. n % 2) (else k (λ q. omega (arith, lt, q)))) ∙ even);
            values = λ d led g odd. let inside = p.shows.within d led in
                let was_odd : slice_index t.words (state_at z d) / 2097152 % 4 % 2 ≡ 1 = sym (ap (λ n. n / 2097152 % 4 % 2) (states d inside)) ∙ odd in
                dite (ℕ_discrete (d % 1048576) c)
                (λ here. let o : slice_index t.words (state_at z e) / 2097152 % 4 % 2 ≡ 1 = sym (ap (λ n. n / 2097152 % 4 % 2) (at_cell d here)) ∙ was_odd in absurd (omega (arith, even, o)))
                (λ apart. p.shows.values d led (sym (ap gen_of (states d inside)) ∙ g) was_odd ∙ ap (λ n. Some (Some n)) (sym (others d apart)));
          })
          is
          (λ d lt. ap (λ n. held_of n + stake d v) (else (z.tops + z.sides + 8 * d) (λ q. omega (arith, lt, q))))
          (λ k u apart at. far k u (λ any here o. apart (sym o.holder_is ∙ (ap p.holder here ∙ lead.holder_is))) (p.seats k u at))
          (record {
            seen = mine.seen;
            heard = mine.heard;
            look = mine.look;
            walk = mine.walk;
            own = mine.own;
            begun = mine.begun;
            leads = λ any. record {
              led = lead.led;
              holder_is = lead.holder_is;
              within = lead.within;
              generation = ap gen_of (states e cell) ∙ lead.generation;
              runs = ap (λ n. n / 2097152 % 4 % 2) (states e cell) ∙ lead.runs;
              unsettled = lead.unsettled;
              value_is = λ _. here_is;
              joins = says_on h h e _ _ (ap (λ n. n / 1048576 % 2) (states e lead.within)) refl lead.joins;
            };
            ticket = mine.ticket;
            last = mine.last;
          }),
      refl,
    )
