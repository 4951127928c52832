-- A claim of a free cell.
use Rattle.std.proofs.Common.{◌≡◌, ◌≢◌, ℕ, ◌+◌, ◌-◌, ◌*◌, ◌/◌, ◌%◌, ◌<◌, ◌≤◌, false, cond, eqb, eq-eqb, ne_eqb, List, set, refl, sym, ◌∙◌, ap, subst, arith}
use Rattle.std.proofs.lemmas.Bool.{true≢false}
use Rattle.std.specs.Prelude.{slice_index}
use prog.Atomic.{either}
use mathlib.Core.Option.{some}
use lib.ListN.{get_elem?}
use Rattle.atomic_table.specs.Table.{State, Me, Valid, stepped, keeps, Allows}
use Rattle.atomic_table.proofs.Lists.{exchanged}
use Rattle.sf_lists.specs.Functions.{put}
use Rattle.sf_lists.proofs.Functions.{put_here, put_else}
use Rattle.sf_keyed_words.specs.declared.rule.KeyedSizes.{KeyedSizes}
use Rattle.sf_keyed_words.specs.declared.rule.View.{View}
use Rattle.sf_keyed_words.specs.Rule.{state_at, gen_of, ready_word, IsView, held_at, stake, Holds}
use Rattle.sf_keyed_words.specs.Plays.{loses, next_call, try_claim}
use Rattle.sf_keyed_words.proofs.Seats.{losing, made, still, view_away, held_here, held_else}
use Rattle.sf_keyed_words.proofs.States.{state_set, shows_state, none_held, last_never, moved, away_state, whole, open_parts, shut_from, ready_tag, ready_held}

pub record MayClaim (z : KeyedSizes) (v : View) (c old new : ℕ) : Type 0 where
  pub cell : c < z.cells
  pub small : c < 1048576
  pub free : old % 8388608 ≡ 0
  pub new_is : new ≡ old + 12582913
  pub idle : v.own ≡ 0
  pub sizes : v.sizes ≡ z

-- what the table and the seat are after an exchange that makes the state word x
abbrev pub Outcome : (z : KeyedSizes) (id c old : ℕ) (me : Me ℕ View) (t : State ℕ View) → ℕ → Type 0
Outcome z id c old me t x = (w : View) × (a : _) × Valid t.homes me.1 a × Holds z (stepped t (z.tops + z.sides + 8 * c) x id me.1 w a) × (w ≡ try_claim me.0 (z.tops + z.sides + 8 * c) old (slice_index t.words (z.tops + z.sides + 8 * c)))

claim_won : (z : KeyedSizes) (id c old new : ℕ) (me : Me ℕ View) → MayClaim z me.0 c old new → (t : State ℕ View) → Holds z t → get_elem? t.views id ≡ some me.0
    → slice_index t.words (z.tops + z.sides + 8 * c) ≡ old → Outcome z id c old me t new
claim_won z id c old new me may t p is found =
    let v = me.0 in
    let s = p.words in
    let h = p.history in
    let m = p.seats id v is in
    let cell = may.cell in
    let small = may.small in
    let free = may.free in
    let new_is = may.new_is in
    let i : ℕ = z.tops + z.sides + 8 * c in
    let e : ℕ = (old / 8388608 + 1) * 1048576 + c in
    let e_cell : e % 1048576 ≡ c = omega arith in
    let e_gen : e / 1048576 ≡ old / 8388608 + 1 = omega arith in
    let e_some : e ≢ 0 = λ q. omega arith in
    let ready : new ≡ ready_word e = omega (arith, new_is, free, e_gen) in
    let ws : List ℕ = set t.words i new in
    let st = state_set z t.words c new cell p.shows.size in
    let holder2 = put p.holder c id in
    let empty : slice_index t.words i % 1048576 ≡ 0 = ap (λ n. n % 1048576) found ∙ omega (arith, free) in
    let tag : old / 2097152 % 4 ≡ 0 = omega (arith, free) in
    let never : (k o : ℕ) (u : View) → get_elem? t.views k ≡ some u → held_at c o ≤ stake c u → o ≢ 0 → o % 1048576 ≡ c → ⊥ = λ k o u at le. none_held z t p c k o u cell empty at le in
    let away = away_state z s s h h t.words ws p.holder holder2 c new st (λ j apart. put_else p.holder c id j apart) (λ f. refl) (λ f _ before. before) (λ f _. refl) in
    let all : (k : ℕ) (u : View) → get_elem? t.views k ≡ some u → IsView z s h ws holder2 k u = λ k u at. view_away z s s h h t.words ws p.holder holder2 c k u away (whole h) (λ l. l) (λ _ l. l)
    (λ any here o. never k u.own u at (omega arith) any here)
    (λ any here o. absurd (never k u.leads u at (omega arith) any here))
    (λ any here o. absurd (never k u.ticket u at (omega arith) any here))
    (λ any here o. last_never z p.words t.words p.holder k u.last old c found (λ odd none. omega (arith, tag, odd)) here o)
    (p.seats k u at) in
    let mine = all id v is in
    let later : gen_of (slice_index t.words (state_at z e)) < e / 1048576 = (let was : slice_index t.words (state_at z e) / 8388608 ≡ old / 8388608 = ap (λ d. slice_index t.words (z.tops + z.sides + 8 * d) / 8388608) e_cell ∙ ap gen_of found in omega (arith, was, e_gen)) in
    let inside : e % 1048576 < z.cells = subst (λ d. d < z.cells) (sym e_cell) cell in
    let none : (d : ℕ) → held_at d v.own ≡ 0 = λ d. ap (held_at d) may.idle in
    let w : View = record v { own = e; first = false; named = false } in
    let named : next_call v i old ≡ e = ap (λ (y : KeyedSizes). (old / 8388608 + 1) * 1048576 + (i - (y.tops + y.sides)) / 8) may.sizes ∙ omega arith in (
      w,
      keeps,
      tt,
      made z t p id i new me w s h holder2 p.keeps p.tells p.members
          (shows_state z s h h t.words ws c old new s.closed cell st p.shows found
          (λ f here led live. let o = (open_parts _ f (p.shows.live f led live).0).1 in
          let was : slice_index t.words (state_at z f) ≡ old = ap (λ d. slice_index t.words (z.tops + z.sides + 8 * d)) here ∙ found in
          let two : old / 2097152 % 4 ≡ 2 = sym (ap (λ n. n / 2097152 % 4) was) ∙ o in absurd (omega (arith, two, tag)))
          (λ f here led shut. shut_from new f (λ gen two.
          let was : slice_index t.words (state_at z f) / 8388608 ≡ old / 8388608 = ap (λ d. slice_index t.words (z.tops + z.sides + 8 * d) / 8388608) here ∙ ap gen_of found in
          true≢false (sym led ∙ p.shows.coming f (subst (λ d. d < z.cells) (sym here) cell) (omega (arith, was, gen, new_is)))))
          (λ f apart. refl)
          p.shows.only
          (omega (arith, new_is))
          (λ f here led gen odd. let two : new / 2097152 % 4 ≡ 2 = ap (λ n. n / 2097152 % 4) ready ∙ ready_tag e in absurd (omega (arith, two, odd)))
          (λ f r is. is))
          is
          (moved z t.words ws c old new v w st found
          (let a = held_here c e e_some e_cell in let b = none c in let one : new % 1048576 ≡ 1 = ap (λ n. n % 1048576) ready ∙ ready_held e in let zero_ : old % 1048576 ≡ 0 = omega (arith, free) in omega (arith, a, b, one, zero_))
          (λ d apart. ap (λ n. n + held_at d v.leads + held_at d v.ticket) (none d ∙ sym (held_else d e (λ q. apart (sym q ∙ e_cell))))))
          (λ k u apart at. all k u at)
          (record {
            seen = mine.seen;
            heard = mine.heard;
            look = mine.look;
            walk = mine.walk;
            own = λ any. record {
              new = p.shows.coming e inside later;
              holder_is = ap holder2 e_cell ∙ put_here p.holder c id;
              within = inside;
              state = st.at e e_cell ∙ ready;
              name = λ no. absurd (true≢false (sym no));
            };
            begun = λ _ no. absurd (true≢false (sym no));
            leads = mine.leads;
            ticket = mine.ticket;
            last = mine.last;
          }),
      sym (ap (λ b. cond b (record v { own = next_call v i old; first = false; named = false }) (loses v)) (eq-eqb _ old found) ∙ ap (λ n. record v { own = n; first = false; named = false }) named),
    )

claim_lost : (z : KeyedSizes) (id c old : ℕ) (me : Me ℕ View) → (t : State ℕ View) → Holds z t → get_elem? t.views id ≡ some me.0
    → slice_index t.words (z.tops + z.sides + 8 * c) ≢ old → Outcome z id c old me t (slice_index t.words (z.tops + z.sides + 8 * c))
claim_lost z id c old me t p is differ = (
  loses me.0,
  keeps,
  tt,
  still z t p id (z.tops + z.sides + 8 * c) me (loses me.0) is (λ d. refl) (losing z p.words p.history t.words p.holder id me.0 (p.seats id me.0 is)),
  sym (ap (λ b. cond b (record me.0 { own = next_call me.0 (z.tops + z.sides + 8 * c) old; first = false; named = false }) (loses me.0)) (ne_eqb _ old differ)),
)

pub claims : (z : KeyedSizes) (slots id c old new : ℕ) (me : Me ℕ View) → MayClaim z me.0 c old new
    → Allows (Holds z) slots id me (z.tops + z.sides + 8 * c) (λ n. either (eqb n old) new n) (λ n after. after.0 ≡ try_claim me.0 (z.tops + z.sides + 8 * c) old n)
claims z slots id c old new me may t p len is fits =
    exchanged (slice_index t.words (z.tops + z.sides + 8 * c)) old new (Outcome z id c old me t) (claim_won z id c old new me may t p is) (claim_lost z id c old me t p is)
