-- What a look at one more side word leaves of what a walk has shown.
use Rattle.std.proofs.Common.{◌≡◌, ◌≢◌, ℕ, ◌+◌, ◌<◌, ◌/◌, ◌%◌, Bool, true, false, cond, ◌||◌, eqb, eq-eqb, ne_eqb, List, ◌∷◌, refl, sym, ◌∙◌, ap, subst, arith}
use Rattle.std.proofs.lemmas.Bool.{true≢false}
use Rattle.std.specs.List.{list_any}
use Rattle.sf_keyed_words.specs.declared.rule.KeyedSizes.{KeyedSizes}
use Rattle.sf_keyed_words.specs.declared.rule.Name.{Name}
use Rattle.sf_keyed_words.specs.declared.rule.View.{View}
use Rattle.sf_keyed_words.specs.Rule.{number, slot_of, is_open_call, Unmet}
use Rattle.sf_keyed_words.specs.Plays.{walk_from, walk_on, met_open, met_closed, read_low, read_high, try_aside, loses}
use Rattle.sf_keyed_walks.specs.declared.walk.Walked.{Walked}
use Rattle.sf_keyed_walks.specs.Walk.{Stays, HasLooked, MetNone, Shown, Began, WentThrough, HasMet}
use Rattle.sf_keyed_walks.proofs.Origins.{stays_on, stays_closed, stays_read, stays_both}

either_true : (b c : Bool) → c ≡ true → cond b true c ≡ true
either_true true c is = refl
either_true false c is = is

unmet_more : (names : List ℕ) (n k : ℕ) → n ≢ k → Unmet names k → Unmet (n ∷ names) k
unmet_more names n k apart before = ap (λ b. b || list_any (λ x. eqb x k) names) (ne_eqb n k apart) ∙ before

-- all that the loop knows
pub record Knows (sizes : KeyedSizes) (slot found at name : ℕ) (v w : View) (aside : Bool) (on : Walked) : Type 0 where
  pub stays : Stays v w
  pub looked : HasLooked w slot found at name
  pub shown : Shown sizes slot at v w aside on

-- the same after the load of the next side word, before its call is looked at
pub record Loaded (sizes : KeyedSizes) (slot found at name : ℕ) (v w : View) (aside : Bool) (on : Walked) : Type 0 where
  pub stays : Stays v w
  pub walks : w.walks ≡ true
  pub slot_is : w.slot ≡ slot
  pub found_is : w.found ≡ found
  pub top_is : w.top ≡ found / 4
  pub looked : w.looked ≡ at + 1
  pub other : w.other ≡ true
  pub unmet : Unmet w.names name
  pub counted : w.counted ≡ false
  pub shown : Shown sizes slot at v w aside on

loaded_view : (sizes : KeyedSizes) (slot found at name n : ℕ) (v w w2 : View) (aside : Bool) (on on2 : Walked) → Knows sizes slot found at name v w aside on → w2 ≡ walk_on w n
    → (on2.aside ≡ false → (on.aside ≡ false → w.saved ≡ true) → w2.saved ≡ true) → (on2.aside ≡ true → on.aside ≡ true) → on2.taken ≡ on.taken → on2.marks ≡ on.marks
    → Loaded sizes slot found at name v w2 aside on2
loaded_view sizes slot found at name n v w w2 aside on on2 k is saved more taken marks = record {
  stays = stays_both v w w2 k.stays (stays_on w w2 n is);
  walks = ap (λ (q : View). q.walks) is ∙ k.looked.walks;
  slot_is = ap (λ (q : View). q.slot) is ∙ k.looked.slot_is;
  found_is = ap (λ (q : View). q.found) is ∙ k.looked.found_is;
  top_is = ap (λ (q : View). q.top) is ∙ k.looked.top_is;
  looked = ap (λ (q : View). q.looked) is ∙ ap (λ m. m + 1) k.looked.looked;
  other = ap (λ (q : View). q.other) is ∙ k.looked.other;
  unmet = subst (λ (q : View). Unmet q.names name) (sym is) k.looked.unmet;
  counted = ap (λ (q : View). q.counted) is;
  shown = record {
    saved_is = λ shut before. saved shut (λ was. k.shown.saved_is was before);
    opened = λ a t. ap (λ (q : View). q.opened) is ∙ k.shown.opened (more a) (sym taken ∙ t);
    taken = λ t. subst (λ m. v.lost < m) (sym (ap (λ (q : View). q.lost) is)) (k.shown.taken (sym taken ∙ t));
    marks = λ none. subst (λ (q : View). MetNone sizes slot q) (sym is) (k.shown.marks (sym marks ∙ none));
  };
}

-- the side word names the top, which is aside then
pub loaded_top : (sizes : KeyedSizes) (slot found at name n : ℕ) (v w w2 : View) (aside : Bool) (on on2 : Walked) → Knows sizes slot found at name v w aside on → w2 ≡ walk_on w n → n / 4 ≡ found / 4
    → on2 ≡ record on { aside = false } → Loaded sizes slot found at name v w2 aside on2
loaded_top sizes slot found at name n v w w2 aside on on2 k is same on_is = loaded_view sizes slot found at name n v w w2 aside on on2 k is
    (λ _ _. ap (λ (q : View). q.saved) is ∙ ap (λ b. cond b true w.saved) (eq-eqb (n / 4) w.top (same ∙ sym k.looked.top_is)))
    (λ a. absurd (true≢false (sym a ∙ ap (λ (q : Walked). q.aside) on_is))) (ap (λ (q : Walked). q.taken) on_is) (ap (λ (q : Walked). q.marks) on_is)

-- or another call
pub loaded_other : (sizes : KeyedSizes) (slot found at name n : ℕ) (v w w2 : View) (aside : Bool) (on on2 : Walked) → Knows sizes slot found at name v w aside on → w2 ≡ walk_on w n
    → on2 ≡ on → Loaded sizes slot found at name v w2 aside on2
loaded_other sizes slot found at name n v w w2 aside on on2 k is on_is = loaded_view sizes slot found at name n v w w2 aside on on2 k is
    (λ shut before. ap (λ (q : View). q.saved) is ∙ either_true (eqb (n / 4) w.top) w.saved (before (sym (ap (λ (q : Walked). q.aside) on_is) ∙ shut)))
    (λ a. sym (ap (λ (q : Walked). q.aside) on_is) ∙ a) (ap (λ (q : Walked). q.taken) on_is) (ap (λ (q : Walked). q.marks) on_is)

-- its call has another name, if it is open
pub passed_other : (sizes : KeyedSizes) (slot found at name state : ℕ) (held : Name) (v w w2 : View) (aside : Bool) (on on2 : Walked) → Loaded sizes slot found at name v w aside on
    → w2 ≡ read_high (read_low (met_open w state) held.low) held.high → number held ≢ name
    → on2.aside ≡ on.aside → on2.taken ≡ on.taken → (on2.marks ≡ false → (on.marks ≡ false) × (slot_of sizes (number held) ≢ slot))
    → Knows sizes slot found (at + 1) name v w2 aside on2
passed_other sizes slot found at name state held v w w2 aside on on2 l is apart asides taken marks = record {
  stays = stays_both v w w2 l.stays (stays_read w w2 state held.low held.high is);
  looked = record {
    walks = ap (λ (q : View). q.walks) is ∙ l.walks;
    slot_is = ap (λ (q : View). q.slot) is ∙ l.slot_is;
    found_is = ap (λ (q : View). q.found) is ∙ l.found_is;
    top_is = ap (λ (q : View). q.top) is ∙ l.top_is;
    looked = ap (λ (q : View). q.looked) is ∙ l.looked;
    clear = ap (λ (q : View). q.clear) is;
    other = ap (λ (q : View). q.other) is ∙ either_true (eqb w.but w.top) w.other l.other;
    unmet = subst (λ (q : View). Unmet q.names name) (sym is) (unmet_more w.names (number held) name apart l.unmet);
  };
  shown = record {
    saved_is = λ shut before. ap (λ (q : View). q.saved) is ∙ l.shown.saved_is (sym asides ∙ shut) before;
    opened = λ a t. ap (λ (q : View). q.opened) is ∙ (ap (λ b. cond b w.opened (w.opened + 1)) l.counted ∙ ap (λ m. m + 1) (l.shown.opened (sym asides ∙ a) (sym taken ∙ t)));
    taken = λ t. subst (λ m. v.lost < m) (sym (ap (λ (q : View). q.lost) is)) (l.shown.taken (sym taken ∙ t));
    marks = λ none. let m = marks none in subst (λ (q : View). MetNone sizes slot q) (sym is) (λ k here. unmet_more w.names (number held) k (λ same. m.1 (ap (slot_of sizes) same ∙ here)) (l.shown.marks m.0 k here));
  };
}

looked_closed : (slot found at name state : ℕ) (sizes : KeyedSizes) (v w w2 : View) (aside : Bool) (on : Walked) → Loaded sizes slot found at name v w aside on → w2 ≡ met_closed w state → HasLooked w2 slot found (at + 1) name
looked_closed slot found at name state sizes v w w2 aside on l is = record {
  walks = ap (λ (q : View). q.walks) is ∙ l.walks;
  slot_is = ap (λ (q : View). q.slot) is ∙ l.slot_is;
  found_is = ap (λ (q : View). q.found) is ∙ l.found_is;
  top_is = ap (λ (q : View). q.top) is ∙ l.top_is;
  looked = ap (λ (q : View). q.looked) is ∙ l.looked;
  clear = ap (λ (q : View). q.clear) is;
  other = ap (λ (q : View). q.other) is ∙ either_true (eqb w.but w.top) w.other l.other;
  unmet = subst (λ (q : View). Unmet q.names name) (sym is) l.unmet;
}

-- its call is closed, and the top is aside already
pub passed_closed : (sizes : KeyedSizes) (slot found at name state : ℕ) (v w w2 : View) (aside : Bool) (on : Walked) → Loaded sizes slot found at name v w aside on → w2 ≡ met_closed w state → on.aside ≡ false
    → Knows sizes slot found (at + 1) name v w2 aside on
passed_closed sizes slot found at name state v w w2 aside on l is shut = record {
  stays = stays_both v w w2 l.stays (stays_closed w w2 state is);
  looked = looked_closed slot found at name state sizes v w w2 aside on l is;
  shown = record {
    saved_is = λ a before. ap (λ (q : View). q.saved) is ∙ either_true (eqb w.but w.top) w.saved (l.shown.saved_is a before);
    opened = λ a. absurd (true≢false (sym a ∙ shut));
    taken = λ t. subst (λ m. v.lost < m) (sym (ap (λ (q : View). q.lost) is)) (l.shown.taken t);
    marks = λ none. subst (λ (q : View). MetNone sizes slot q) (sym is) (l.shown.marks none);
  };
}

-- or the top is set aside in its place
pub passed_won : (sizes : KeyedSizes) (slot found at name state old n : ℕ) (v w w2 w3 : View) (aside : Bool) (on on2 : Walked) → Loaded sizes slot found at name v w aside on → w2 ≡ met_closed w state
    → w3 ≡ try_aside w2 old n → n ≡ old → on2 ≡ record on { aside = false } → Knows sizes slot found (at + 1) name v w3 aside on2
passed_won sizes slot found at name state old n v w w2 w3 aside on on2 l is set won on_is =
    let saved : w3 ≡ record w2 { saved = true } = set ∙ ap (λ b. cond b (record w2 { saved = true }) (loses w2)) (eq-eqb n old won) in
    let h = looked_closed slot found at name state sizes v w w2 aside on l is in
    let s = stays_both v w w2 l.stays (stays_closed w w2 state is) in record {
      stays = subst (λ (q : View). Stays v q) (sym saved) (record { sizes = s.sizes; number = s.number; own = s.own; leads = s.leads; ticket = s.ticket; last = s.last; gone = s.gone; seen = s.seen; lost = s.lost });
      looked = subst (λ (q : View). HasLooked q slot found (at + 1) name) (sym saved) (record { walks = h.walks; slot_is = h.slot_is; found_is = h.found_is; top_is = h.top_is; looked = h.looked; clear = h.clear; other = h.other; unmet = h.unmet });
      shown = record {
        saved_is = λ _ _. ap (λ (q : View). q.saved) saved;
        opened = λ a. absurd (true≢false (sym a ∙ ap (λ (q : Walked). q.aside) on_is));
        taken = λ t. subst (λ m. v.lost < m) (sym (ap (λ (q : View). q.lost) saved ∙ ap (λ (q : View). q.lost) is)) (l.shown.taken (sym (ap (λ (q : Walked). q.taken) on_is) ∙ t));
        marks = λ none. subst (λ (q : View). MetNone sizes slot q) (sym saved) (subst (λ (q : View). MetNone sizes slot q) (sym is) (l.shown.marks (sym (ap (λ (q : Walked). q.marks) on_is) ∙ none)));
      };
    }

-- or another took it first
pub passed_lost : (sizes : KeyedSizes) (slot found at name state old n : ℕ) (v w w2 w3 : View) (aside : Bool) (on on2 : Walked) → Loaded sizes slot found at name v w aside on → w2 ≡ met_closed w state
    → w3 ≡ try_aside w2 old n → n ≢ old → on.aside ≡ true → on2 ≡ record on { taken = true } → Knows sizes slot found (at + 1) name v w3 aside on2
passed_lost sizes slot found at name state old n v w w2 w3 aside on on2 l is set lost opened on_is =
    let less : w3 ≡ loses w2 = set ∙ ap (λ b. cond b (record w2 { saved = true }) (loses w2)) (ne_eqb n old lost) in
    let h = looked_closed slot found at name state sizes v w w2 aside on l is in
    let s = stays_both v w w2 l.stays (stays_closed w w2 state is) in
    let le = s.lost in record {
      stays = subst (λ (q : View). Stays v q) (sym less) (record { sizes = s.sizes; number = s.number; own = s.own; leads = s.leads; ticket = s.ticket; last = s.last; gone = s.gone; seen = s.seen; lost = omega (arith, le) });
      looked = subst (λ (q : View). HasLooked q slot found (at + 1) name) (sym less) (record { walks = h.walks; slot_is = h.slot_is; found_is = h.found_is; top_is = h.top_is; looked = h.looked; clear = h.clear; other = h.other; unmet = h.unmet });
      shown = record {
        saved_is = λ shut. absurd (true≢false (sym opened ∙ (sym (ap (λ (q : Walked). q.aside) on_is) ∙ shut)));
        opened = λ _ none. absurd (true≢false (sym (ap (λ (q : Walked). q.taken) on_is) ∙ none));
        taken = λ t. subst (λ m. v.lost < m) (sym (ap (λ (q : View). q.lost) less)) (omega (arith, le));
        marks = λ none. subst (λ (q : View). MetNone sizes slot q) (sym less) (subst (λ (q : View). MetNone sizes slot q) (sym is) (l.shown.marks (sym (ap (λ (q : Walked). q.marks) on_is) ∙ none)));
      };
    }

-- the top's call has another name, if it is open
pub began_other : (sizes : KeyedSizes) (slot found name state : ℕ) (held : Name) (v w w2 : View) (leads marks : Bool) → w ≡ walk_from v slot found → w2 ≡ read_high (read_low (met_open w state) held.low) held.high
    → number held ≢ name → (marks ≡ false → slot_of sizes (number held) ≢ slot) → Began sizes slot found name w2 leads (record { aside = leads; marks = marks; taken = false })
began_other sizes slot found name state held v w w2 leads marks begins is apart other = record {
  looked = record {
    walks = ap (λ (q : View). q.walks) is ∙ ap (λ (q : View). q.walks) begins;
    slot_is = ap (λ (q : View). q.slot) is ∙ ap (λ (q : View). q.slot) begins;
    found_is = ap (λ (q : View). q.found) is ∙ ap (λ (q : View). q.found) begins;
    top_is = ap (λ (q : View). q.top) is ∙ ap (λ (q : View). q.top) begins;
    looked = ap (λ (q : View). q.looked) is ∙ ap (λ (q : View). q.looked) begins;
    clear = ap (λ (q : View). q.clear) is;
    other = ap (λ (q : View). q.other) is ∙ ap (λ b. cond b true w.other) (eq-eqb w.but w.top (ap (λ (q : View). q.but) begins ∙ sym (ap (λ (q : View). q.top) begins)));
    unmet = subst (λ (q : View). Unmet q.names name) (sym is) (unmet_more w.names (number held) name apart (subst (λ (q : View). Unmet q.names name) (sym begins) refl));
  };
  saved_is = λ yes shut. absurd (true≢false (sym yes ∙ shut));
  opened = λ _. ap (λ (q : View). q.opened) is ∙ (ap (λ (q : View). cond q.counted q.opened (q.opened + 1)) begins);
  taken = refl;
  marks = λ none. subst (λ (q : View). MetNone sizes slot q) (sym is) (λ k here. unmet_more w.names (number held) k (λ same. other none (ap (slot_of sizes) same ∙ here)) (subst (λ (q : View). Unmet q.names k) (sym begins) refl));
}

-- or it is closed
pub began_closed : (sizes : KeyedSizes) (slot found name state : ℕ) (v w w2 : View) (leads : Bool) → w ≡ walk_from v slot found → w2 ≡ met_closed w state
    → Began sizes slot found name w2 leads (record { aside = false; marks = false; taken = false })
began_closed sizes slot found name state v w w2 leads begins is =
    let at_top : eqb w.but w.top ≡ true = eq-eqb w.but w.top (ap (λ (q : View). q.but) begins ∙ sym (ap (λ (q : View). q.top) begins)) in
    record {
      looked = record {
        walks = ap (λ (q : View). q.walks) is ∙ ap (λ (q : View). q.walks) begins;
        slot_is = ap (λ (q : View). q.slot) is ∙ ap (λ (q : View). q.slot) begins;
        found_is = ap (λ (q : View). q.found) is ∙ ap (λ (q : View). q.found) begins;
        top_is = ap (λ (q : View). q.top) is ∙ ap (λ (q : View). q.top) begins;
        looked = ap (λ (q : View). q.looked) is ∙ ap (λ (q : View). q.looked) begins;
        clear = ap (λ (q : View). q.clear) is;
        other = ap (λ (q : View). q.other) is ∙ ap (λ b. cond b true w.other) at_top;
        unmet = subst (λ (q : View). Unmet q.names name) (sym is) (subst (λ (q : View). Unmet q.names name) (sym begins) refl);
      };
      saved_is = λ _ _. ap (λ (q : View). q.saved) is ∙ ap (λ b. cond b true w.saved) at_top;
      opened = λ no_aside. absurd (true≢false (sym no_aside));
      taken = refl;
      marks = λ _. subst (λ (q : View). MetNone sizes slot q) (sym is) (λ k _. subst (λ (q : View). Unmet q.names k) (sym begins) refl);
    }

-- a call of the name was met
pub met_named : (sizes : KeyedSizes) (call state name : ℕ) (w w2 : View) → w.but ≡ call → call % 1048576 < sizes.cells → w2 ≡ read_high (read_low (met_open w state) (name % 18446744073709551616)) (name / 18446744073709551616)
    → w2.name ≡ name → is_open_call state call ≡ true → HasMet sizes w2 call state name
met_named sizes call state name w w2 but cell is named opened = record {
  but = ap (λ (q : View). q.but) is ∙ but;
  cell = cell;
  told = ap (λ (q : View). q.told) is;
  name_is = named;
  opened = opened;
  state_is = ap (λ (q : View). q.state) is;
}

-- a walk that need not look at side words
pub through_first : (sizes : KeyedSizes) (slot found name : ℕ) (w : View) (leads : Bool) (on : Walked) → Began sizes slot found name w leads on → found % 2 ≢ 1 → on.aside ≡ false → WentThrough sizes slot found name w leads on
through_first sizes slot found name w leads on b even shut = record {
  walks = b.looked.walks;
  slot_is = b.looked.slot_is;
  found_is = b.looked.found_is;
  top_is = b.looked.top_is;
  looked = λ odd. absurd (even odd);
  clear = b.looked.clear;
  other = b.looked.other;
  unmet = b.looked.unmet;
  saved_is = b.saved_is;
  opened = λ aside. absurd (true≢false (sym aside ∙ shut));
  marks = b.marks;
}

-- and one that has
pub through_sides : (sizes : KeyedSizes) (slot found name : ℕ) (v w : View) (leads : Bool) (on on2 : Walked) → Began sizes slot found name v leads on → HasLooked w slot found 16 name → Shown sizes slot 16 v w on.aside on2
    → WentThrough sizes slot found name w leads on2
through_sides sizes slot found name v w leads on on2 b looked shown = record {
  walks = looked.walks;
  slot_is = looked.slot_is;
  found_is = looked.found_is;
  top_is = looked.top_is;
  looked = λ _. looked.looked;
  clear = looked.clear;
  other = looked.other;
  unmet = looked.unmet;
  saved_is = λ yes shut. shown.saved_is shut (b.saved_is yes);
  opened = shown.opened;
  marks = shown.marks;
}
