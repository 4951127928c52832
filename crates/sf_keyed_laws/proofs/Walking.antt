-- The steps keep the rule, and what a walk has shown lasts.
use Rattle.std.proofs.Common.{◌≡◌, ◌≢◌, ℕ, ◌+◌, Bool, true, false, refl, sym, ◌∙◌, ap, subst, arith}
use Rattle.std.proofs.lemmas.Bool.{true≢false}
use mathlib.Core.Logic.{dite}
use native.Mathlib.Decide.{ℕ_discrete}
use Rattle.sf_lists.specs.Functions.{put}
use Rattle.sf_lists.proofs.Functions.{put_here, put_else, put_cases}
use Rattle.sf_keyed_laws.specs.Words.{Layout, Words, IsAside, IsLedIfAny, Keeps}
use Rattle.sf_keyed_laws.specs.Steps.{Leads, SetsAside, leads, sets_aside, closes, seals, led_on, aside_at, closed_one, sealed_at, StepsKeep}
use Rattle.sf_keyed_laws.specs.Walks.{WalksLast, WalksBegin, WalksGoOn, WalksClear, OthersLast, WalksEnd, SetAsideLasts, UnmarkedIsWalked, SealedLasts}

pub walks_begin : WalksBegin
walks_begin y s k c keeps at e led live key isnt _ =
    let slot : y.slot_of (s.key_of e) ≡ y.slot_of k = ap y.slot_of key in
    subst (λ p. IsAside y s p 0 e) slot (keeps.found e led live (λ top. isnt (sym top ∙ (ap s.top slot ∙ at))))

pub walks_go_on : WalksGoOn
walks_go_on y s k c d n walked names_d at e led live key isnt other =
    let a = walked at e led live key isnt isnt in
    dite (ℕ_discrete a.at n)
    (λ here. absurd (other (sym (subst (λ i. s.side (y.sides_of (y.slot_of k) + i) ≡ e) here a.names) ∙ names_d)))
    (λ apart. record { at = a.at; after = let le = a.after in grind (arith, apart, le); within = a.within; names = a.names })

pub walks_clear : WalksClear
walks_clear y s k c d n walked other at e led live key isnt _ =
    walked at e led live key isnt (λ is. other (ap s.led (sym is) ∙ led) (ap s.closed (sym is) ∙ live) (ap s.key_of (sym is) ∙ key))

pub walks_end : WalksEnd
walks_end y s k c walked at other e led live key =
    dite (ℕ_discrete e c)
    (λ is. other (ap s.led (sym is) ∙ led) (ap s.closed (sym is) ∙ live) (ap s.key_of (sym is) ∙ key))
    (λ isnt. let a = walked at e led live key isnt isnt in let after = a.after in let within = a.within in absurd (omega arith))

-- one that is aside stays, where no side word is changed
moved : (y : Layout) (s t : Words) (p from e : ℕ) → t.side ≡ s.side → IsAside y s p from e → IsAside y t p from e
moved y s t p from e same a = record { at = a.at; after = a.after; within = a.within; names = ap (λ f. f (y.sides_of p + a.at)) same ∙ a.names }

-- what is led is some call
some_call : (y : Layout) (s : Words) (e : ℕ) → Keeps y s → s.led e ≡ true → e ≢ 0
some_call y s e keeps led zero = true≢false (sym led ∙ (ap s.led zero ∙ keeps.none))

-- a side word that is changed names a dead call, so an open one stays
kept : (y : Layout) (s : Words) (w d c p from e : ℕ) → SetsAside s w d c → e ≢ 0 → s.closed e ≡ false → IsAside y s p from e → IsAside y (aside_at s w c) p from e
kept y s w d c p from e h some live a =
    let i : ℕ = y.sides_of p + a.at in
    record {
      at = a.at;
      after = a.after;
      within = a.within;
      names = put_else s.side w c i
          (λ is. let same : e ≡ d = sym a.names ∙ (ap s.side is ∙ h.was) in true≢false (sym (h.dead (λ z. some (same ∙ z))) ∙ (ap s.closed (sym same) ∙ live)))
          ∙ a.names;
    }

pub set_aside_lasts : SetAsideLasts
set_aside_lasts y s (leads n k c b h) p e keeps led live a = moved y s (led_on y s n k b) p 0 e refl a
set_aside_lasts y s (sets_aside w d c h) p e keeps led live a = kept y s w d c p 0 e h (some_call y s e keeps led) live a
set_aside_lasts y s (closes c h) p e keeps led live a = moved y s (closed_one s c) p 0 e refl a
set_aside_lasts y s (seals q) p e keeps led live a = moved y s (sealed_at s q) p 0 e refl a

-- a call that is not closed after another was, was not before
pub still_open : (s : Words) (c e : ℕ) → put s.closed c true e ≡ false → s.closed e ≡ false
still_open s c e live = put_cases (λ b. b ≡ false → s.closed e ≡ false) s.closed c true e (λ is it. absurd (true≢false it)) (λ isnt it. it) live

pub walks_last : WalksLast
walks_last y s (leads n j x b h) k c z n2 keeps any walked at e led live key isnt out =
    dite (ℕ_discrete (y.slot_of k) (y.slot_of j))
    (λ same.
    let new : c ≡ n = sym at ∙ (ap (put s.top (y.slot_of j) n) same ∙ put_here s.top (y.slot_of j) n) in
    absurd (true≢false (sym (any (λ z. h.call (sym new ∙ z))) ∙ (ap s.led new ∙ h.new))))
    (λ apart.
    let top : s.top (y.slot_of k) ≡ c = sym (put_else s.top (y.slot_of j) n (y.slot_of k) apart) ∙ at in
    dite (ℕ_discrete e n)
    (λ is. absurd (apart (ap y.slot_of (sym key ∙ (ap (put s.key_of n j) is ∙ put_here s.key_of n j)))))
    (λ other. moved y s (led_on y s n j b) (y.slot_of k) n2 e refl (walked top e (sym (put_else s.led n true e other) ∙ led) live (sym (put_else s.key_of n j e other) ∙ key) isnt out)))
walks_last y s (sets_aside w d x h) k c z n keeps any walked at e led live key isnt out =
    kept y s w d x (y.slot_of k) n e h (some_call y s e keeps led) live (walked at e led live key isnt out)
walks_last y s (closes x h) k c z n keeps any walked at e led live key isnt out =
    moved y s (closed_one s x) (y.slot_of k) n e refl (walked at e led (still_open s x e live) key isnt out)
walks_last y s (seals q) k c z n keeps any walked at e led live key isnt out = moved y s (sealed_at s q) (y.slot_of k) n e refl (walked at e led live key isnt out)

-- what was led is led after one more
pub led_more : (s : Words) (n x : ℕ) → IsLedIfAny s x → x ≢ 0 → put s.led n true x ≡ true
led_more s n x led some = put_cases (λ b. b ≡ true) s.led n true x (λ is. refl) (λ isnt. led some)

is_marked : (b : Bool) → (b ≡ false → ⊥) → b ≡ true
is_marked true never = refl
is_marked false never = absurd (never refl)

lead_keeps : (y : Layout) (s : Words) (n k c : ℕ) (b : Bool) → Leads y s n k c b → Keeps y s → Keeps y (led_on y s n k b)
lead_keeps y s n k c b h keeps = record {
  found = λ e led live isnt. dite (ℕ_discrete e n)
      (λ is. absurd (isnt (ap (λ x. put s.top (y.slot_of k) n (y.slot_of (put s.key_of n k x))) is ∙ (ap (λ x. put s.top (y.slot_of k) n (y.slot_of x)) (put_here s.key_of n k) ∙ (put_here s.top (y.slot_of k) n ∙ sym is)))))
      (λ other.
      let key : put s.key_of n k e ≡ s.key_of e = put_else s.key_of n k e other in
      let was_led : s.led e ≡ true = sym (put_else s.led n true e other) ∙ led in
      let a : IsAside y s (y.slot_of (s.key_of e)) 0 e = dite (ℕ_discrete (y.slot_of (s.key_of e)) (y.slot_of k))
      (λ same. dite (ℕ_discrete e c)
      (λ top. subst (λ p. IsAside y s p 0 e) (sym same) (subst (λ x. IsAside y s (y.slot_of k) 0 x) (sym top) (h.saved (ap s.led (sym top) ∙ was_led) (ap s.closed (sym top) ∙ live))))
      (λ below. keeps.found e was_led live (λ at. below (sym at ∙ (ap s.top same ∙ h.was)))))
      (λ apart. keeps.found e was_led live (λ at. isnt (ap (λ x. put s.top (y.slot_of k) n (y.slot_of x)) key ∙ (put_else s.top (y.slot_of k) n (y.slot_of (s.key_of e)) apart ∙ at)))) in
      moved y s (led_on y s n k b) (y.slot_of (put s.key_of n k e)) 0 e refl (subst (λ x. IsAside y s (y.slot_of x) 0 e) (sym key) a));
  marks = λ e led live isnt. dite (ℕ_discrete e n)
      (λ is. absurd (isnt (ap (λ x. put s.top (y.slot_of k) n (y.slot_of (put s.key_of n k x))) is ∙ (ap (λ x. put s.top (y.slot_of k) n (y.slot_of x)) (put_here s.key_of n k) ∙ (put_here s.top (y.slot_of k) n ∙ sym is)))))
      (λ other.
      let key : put s.key_of n k e ≡ s.key_of e = put_else s.key_of n k e other in
      let was_led : s.led e ≡ true = sym (put_else s.led n true e other) ∙ led in
      ap (λ x. put s.marked (y.slot_of k) b (y.slot_of x)) key ∙ dite (ℕ_discrete (y.slot_of (s.key_of e)) (y.slot_of k))
      (λ same. ap (put s.marked (y.slot_of k) b) same ∙ (put_here s.marked (y.slot_of k) b ∙ is_marked b (λ plain. h.clean plain e was_led live same)))
      (λ apart. put_else s.marked (y.slot_of k) b (y.slot_of (s.key_of e)) apart
      ∙ keeps.marks e was_led live (λ at. isnt (ap (λ x. put s.top (y.slot_of k) n (y.slot_of x)) key ∙ (put_else s.top (y.slot_of k) n (y.slot_of (s.key_of e)) apart ∙ at)))));
  one = λ e f e_led e_live f_led f_live same. dite (ℕ_discrete e n)
      (λ e_is. dite (ℕ_discrete f n)
      (λ f_is. e_is ∙ sym f_is)
      (λ f_not. absurd (h.none f (sym (put_else s.led n true f f_not) ∙ f_led) f_live
      (sym (put_else s.key_of n k f f_not) ∙ (sym same ∙ (ap (put s.key_of n k) e_is ∙ put_here s.key_of n k))))))
      (λ e_not. dite (ℕ_discrete f n)
      (λ f_is. absurd (h.none e (sym (put_else s.led n true e e_not) ∙ e_led) e_live
      (sym (put_else s.key_of n k e e_not) ∙ (same ∙ (ap (put s.key_of n k) f_is ∙ put_here s.key_of n k)))))
      (λ f_not. keeps.one e f (sym (put_else s.led n true e e_not) ∙ e_led) e_live (sym (put_else s.led n true f f_not) ∙ f_led) f_live
      (sym (put_else s.key_of n k e e_not) ∙ (same ∙ put_else s.key_of n k f f_not))));
  tops = λ p. put_cases (λ x. x ≢ 0 → put s.led n true x ≡ true) s.top (y.slot_of k) n p (λ is some. put_here s.led n true) (λ isnt some. led_more s n (s.top p) (keeps.tops p) some);
  sides = λ w some. led_more s n (s.side w) (keeps.sides w) some;
  none = put_else s.led n true 0 (λ z. h.call (sym z)) ∙ keeps.none;
}

pub steps_keep : StepsKeep
steps_keep y s (leads n k c b h) keeps = lead_keeps y s n k c b h keeps
steps_keep y s (sets_aside w d c h) keeps = record {
  found = λ e led live isnt. kept y s w d c (y.slot_of (s.key_of e)) 0 e h (some_call y s e keeps led) live (keeps.found e led live isnt);
  marks = keeps.marks;
  one = keeps.one;
  tops = keeps.tops;
  sides = λ i. put_cases (λ x. x ≢ 0 → s.led x ≡ true) s.side w c i (λ is some. h.led some) (λ isnt some. keeps.sides i some);
  none = keeps.none;
}
steps_keep y s (closes c h) keeps = record {
  found = λ e led live isnt. moved y s (closed_one s c) (y.slot_of (s.key_of e)) 0 e refl (keeps.found e led (still_open s c e live) isnt);
  marks = λ e led live isnt. keeps.marks e led (still_open s c e live) isnt;
  one = λ e f e_led e_live f_led f_live same. keeps.one e f e_led (still_open s c e e_live) f_led (still_open s c f f_live) same;
  tops = keeps.tops;
  sides = keeps.sides;
  none = keeps.none;
}
steps_keep y s (seals q) keeps = record {
  found = λ e led live isnt. moved y s (sealed_at s q) (y.slot_of (s.key_of e)) 0 e refl (keeps.found e led live isnt);
  marks = keeps.marks;
  one = keeps.one;
  tops = keeps.tops;
  sides = keeps.sides;
  none = keeps.none;
}

pub unmarked_is_walked : UnmarkedIsWalked
unmarked_is_walked y s k c keeps at unmarked again e led live key isnt out =
    let slot : y.slot_of (s.key_of e) ≡ y.slot_of k = ap y.slot_of key in
    absurd (true≢false (sym (keeps.marks e led live (λ top. isnt (sym top ∙ (ap s.top slot ∙ at)))) ∙ (ap s.marked slot ∙ unmarked)))

pub sealed_lasts : SealedLasts
sealed_lasts y s (leads n j c b h) k sealed none = (
  sealed,
  λ e led live key. dite (ℕ_discrete e n)
      (λ is. let same : j ≡ k = sym (put_here s.key_of n j) ∙ (ap (put s.key_of n j) (sym is) ∙ key) in true≢false (sym sealed ∙ (ap (λ x. s.sealed (y.slot_of x)) (sym same) ∙ h.unsealed)))
      (λ other. none e (sym (put_else s.led n true e other) ∙ led) live (sym (put_else s.key_of n j e other) ∙ key)),
)
sealed_lasts y s (sets_aside w d c h) k sealed none = (sealed, none)
sealed_lasts y s (closes c h) k sealed none = (sealed, λ e led live key. none e led (still_open s c e live) key)
sealed_lasts y s (seals q) k sealed none = (put_cases (λ b. b ≡ true) s.sealed q true (y.slot_of k) (λ is. refl) (λ isnt. sealed), none)

pub others_last : OthersLast
others_last y s (leads n j c b h) k d any keeps other led live =
    dite (ℕ_discrete d n)
    (λ is key. true≢false (sym (any (λ z. h.call (sym is ∙ z))) ∙ (ap s.led is ∙ h.new)))
    (λ isnt key. other (sym (put_else s.led n true d isnt) ∙ led) live (sym (put_else s.key_of n j d isnt) ∙ key))
others_last y s (sets_aside w d2 c h) k d any keeps other led live = other led live
others_last y s (closes c h) k d any keeps other led live = other led (still_open s c d live)
others_last y s (seals q) k d any keeps other led live = other led live
