-- what comparing words, and what a loaded word says
use Rattle.std.proofs.Common.{◌≡◌, ℕ, Bool, true, false, ◌==◌, ◌&&◌, Option, Some, None, refl, sym, ◌∙◌, ap, subst, eq-eqb}
use Rattle.std.proofs.lemmas.Bool.{and_parts, and_from, eqb-true}
use Rattle.std.specs.Prelude.{cond}
use Rattle.sf_history.specs.declared.call.CallId.{CallId}
use Rattle.sf_history.specs.Calls.{same_call}
use Rattle.sf_history.specs.History.{holds_call}
use Rattle.sf_words.specs.declared.key_word.KeyState.{KeyState}
use Rattle.sf_words.specs.declared.key_word.KeyState.TheVariants.{Never, Names}
use Rattle.sf_words.specs.declared.call_word.LeaderState.{LeaderState}
use Rattle.sf_words.specs.declared.call_word.CallState.{CallState}
use Rattle.sf_words.specs.declared.call_word.CallState.TheVariants as word
use Rattle.sf_steps_laws.proofs.Sound.{IsForgotWord}
use Rattle.sf_steps_laws.specs.World.{same_key, same_flag, same_top, is_open_with, open_in, is_forgot_in}

-- an exchange of a key word compares the whole of it
pub same_key_is : (v u : KeyState) → same_key v u ≡ true → v ≡ u
same_key_is Never Never is = refl
same_key_is Never (Names b g x) is = cc
same_key_is (Names b g x) Never is = cc
same_key_is (Names b g true) (Names c i true) is = let both = and_parts (b == c) (g == i) is in let callers : b ≡ c = eqb-true b c both.0 in let generations : g ≡ i = eqb-true g i both.1 in cc
same_key_is (Names b g true) (Names c i false) is = cc
same_key_is (Names b g false) (Names c i true) is = cc
same_key_is (Names b g false) (Names c i false) is = let both = and_parts (b == c) (g == i) is in let callers : b ≡ c = eqb-true b c both.0 in let generations : g ≡ i = eqb-true g i both.1 in cc

pub same_key_self : (v : KeyState) → same_key v v ≡ true
same_key_self Never = refl
same_key_self (Names b g true) = and_from (b == b) (g == g) (eq-eqb b b refl) (eq-eqb g g refl)
same_key_self (Names b g false) = and_from (b == b) (g == g) (eq-eqb b b refl) (eq-eqb g g refl)

-- an open word of the generation is found open
pub open_in_open : (g : ℕ) (v : CallState) (s : LeaderState) → v ≡ word.Open s → s.generation ≡ g → open_in g v ≡ Some s
open_in_open g v s is same = ap (λ (u : CallState). open_in g u) is ∙ ap (λ (b : Bool). cond b (Some s) None) (eq-eqb s.generation g same)

pub same_pair : (x y : ℕ × ℕ) → Some x ≡ Some y → x ≡ y
same_pair x y is = cc

same_flag_is : (x y : Bool) → same_flag x y ≡ true → x ≡ y
same_flag_is true true is = refl
same_flag_is true false is = cc
same_flag_is false true is = cc
same_flag_is false false is = refl

same_top_is : (x y : Option ℕ) → same_top x y ≡ true → x ≡ y
same_top_is None None is = refl
same_top_is None (Some b) is = cc
same_top_is (Some a) None is = cc
same_top_is (Some a) (Some b) is = ap (λ (n : ℕ). Some n) (eqb-true a b is)

-- an exchange of an open call word compares the whole of it
pub open_with_is : (seen : LeaderState) (v : CallState) → is_open_with seen v ≡ true → v ≡ word.Open seen
open_with_is seen word.Free is = cc
open_with_is seen (word.Open s) is =
    let outer = and_parts (s.generation == seen.generation) (same_flag s.own seen.own && same_top s.top seen.top) is in
    let inner = and_parts (same_flag s.own seen.own) (same_top s.top seen.top) outer.1 in
    let generations : s.generation ≡ seen.generation = eqb-true s.generation seen.generation outer.0 in
    let owns : s.own ≡ seen.own = same_flag_is s.own seen.own inner.0 in
    let tops : s.top ≡ seen.top = same_top_is s.top seen.top inner.1 in
    ap (λ (n : ℕ). word.Open (record { generation = n; own = s.own; top = s.top })) generations
    ∙ (ap (λ (b : Bool). word.Open (record { generation = seen.generation; own = b; top = s.top })) owns
    ∙ ap (λ (t : Option ℕ). word.Open (record { generation = seen.generation; own = seen.own; top = t })) tops)
open_with_is seen (word.Forgot s) is = cc
open_with_is seen (word.Done s) is = cc
open_with_is seen (word.Listed g) is = cc
open_with_is seen (word.Full g) is = cc

pub alike_call : (c d : CallId) → d.caller ≡ c.caller → d.generation ≡ c.generation → same_call d c ≡ true
alike_call c d callers generations = and_from (d.caller == c.caller) (d.generation == c.generation) (eq-eqb d.caller c.caller callers) (eq-eqb d.generation c.generation generations)

-- what is left of an open call by the settle of a call
pub left_open : (o : Option CallId) (c d : CallId) → cond (holds_call o c) None o ≡ Some d → (o ≡ Some d) × (same_call d c ≡ false)
left_open None c d is = cc
left_open (Some b) c d is = at (same_call b c) refl is
  where
    at : (t : Bool) → same_call b c ≡ t → cond t None (Some b) ≡ Some d → (Some b ≡ Some d) × (same_call d c ≡ false)
    at true e is = cc
    at false e is = let same : b ≡ d = cc in (is, subst (λ (z : CallId). same_call z c ≡ false) same e)

-- a word found open is open, of the generation
pub open_in_is : (g : ℕ) (v : CallState) (s : LeaderState) → open_in g v ≡ Some s → (v ≡ word.Open s) × (s.generation ≡ g)
open_in_is g word.Free s is = cc
open_in_is g (word.Open t) s is = at (t.generation == g) refl is
  where
    at : (b : Bool) → (t.generation == g) ≡ b → cond b (Some t) None ≡ Some s → (word.Open t ≡ word.Open s) × (s.generation ≡ g)
    at true e found = let same : t ≡ s = cc in (ap (λ (l : LeaderState). word.Open l) same, sym (ap (λ (l : LeaderState). l.generation) same) ∙ eqb-true t.generation g e)
    at false e found = cc
open_in_is g (word.Forgot t) s is = cc
open_in_is g (word.Done t) s is = cc
open_in_is g (word.Listed i) s is = cc
open_in_is g (word.Full i) s is = cc

-- a word that is found forgotten, both ways
pub forgot_in_is : (g : ℕ) (v : CallState) → is_forgot_in g v ≡ true → IsForgotWord g v
forgot_in_is g word.Free is = cc
forgot_in_is g (word.Open s) is = cc
forgot_in_is g (word.Forgot s) is = eqb-true s.generation g is
forgot_in_is g (word.Done s) is = cc
forgot_in_is g (word.Listed i) is = cc
forgot_in_is g (word.Full i) is = cc

pub forgot_is_in : (g : ℕ) (v : CallState) → IsForgotWord g v → is_forgot_in g v ≡ true
forgot_is_in g word.Free is = absurd is
forgot_is_in g (word.Open s) is = absurd is
forgot_is_in g (word.Forgot s) is = eq-eqb s.generation g is
forgot_is_in g (word.Done s) is = absurd is
forgot_is_in g (word.Listed i) is = absurd is
forgot_is_in g (word.Full i) is = absurd is
