use Rattle.std.proofs.Common.{rules, ◌≡◌, ◌<◌, ◌+◌, ℕ, List, Some, length, sym, ◌∙◌, ap, subst}
use Rattle.std.specs.List.{slice_get}
use Rattle.sf_keyed_chain.specs.Chains.{Sight}
use Rattle.sf_keyed_chain.specs.Notes.{IsNoteOf, ToldState, told_of}
use Rattle.sf_keyed_chain.proofs.Sights.{note_is_of, note_of_all, told_next}
use Rattle.sf_keyed_chain.proofs.chain.KeyedChain.tell.Goals as goal

pub loop-at-preserved : goal.loop-at-preserved
loop-at-preserved c =
    let before = c.loop-at in
    let is = before.invariant in
    let me = c.args.me.now in
    let count : length before.parts.items ≡ before.at = search rules in (
      c.tell_at.ensures.same ∙ is.0,
      search rules,
      subst (λ (items : List ToldState). (i : ℕ) (s : Sight) → i < before.at + 1 → slice_get me i ≡ Some s → slice_get items i ≡ Some (told_of s)) (sym c.in_ok-push.ensures.items)
          (told_next me before.parts.items before.at c.tell_at.result count (λ s e. c.tell_at.ensures.told s (ap (λ l. slice_get l before.at) is.0 ∙ e)) is.2),
    )

tells_all : (c : goal.After-loop-at) → IsNoteOf c.args.me.now c.loop-at.parts.items
tells_all c =
    let me = c.args.me.now in
    let all : c.loop-at.at ≡ length me = search rules in
    let count : length c.loop-at.parts.items ≡ length me = search rules in
    note_of_all me c.loop-at.parts.items count (subst (λ n. (i : ℕ) (s : Sight) → i < n → slice_get me i ≡ Some s → slice_get c.loop-at.parts.items i ≡ Some (told_of s)) all c.loop-at.invariant.2)

pub returns-clause-note : goal.returns-clause-note
returns-clause-note c = tells_all c

pub returns-clause-of : goal.returns-clause-of
returns-clause-of c = note_is_of c.args.self.now c.args.me.now c.loop-at.parts.items c.requires.of (tells_all c)
