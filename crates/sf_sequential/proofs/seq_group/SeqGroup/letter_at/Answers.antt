-- the letter of a call that is settled at a place
use Rattle.std.proofs.Common.{◌∙◌, sym, ap, option_map}
use Rattle.sf_history.specs.declared.event.Event.TheVariants.{Handed}
use Rattle.sf_history.specs.History.{joined}
use Rattle.sf_sequential.specs.declared.command.Taken.TheVariants.{Got}
use Rattle.sf_sequential.specs.Sequential.{letter_of}
use Rattle.sf_sequential.proofs.seq_group.SeqGroup.letter_at.Goals as goal

pub returns-in-Some-clause-letter : goal.returns-in-Some-clause-letter
returns-in-Some-clause-letter g c =
    let h = c.args.self.now.history in
    let some = Handed 0 c.args.call in
    let found = sym (c.requires.settled some) ∙ sym (c.in_ok-value.ensures.shared some) ∙ c.in-Some.is in
    ap (Got c.args.call c.in-Some.value) c.requires.joiners ∙ sym (ap (λ o. letter_of c.args.call (option_map (λ v. (v, joined h c.args.call)) o)) found)

pub returns-in-None-clause-letter : goal.returns-in-None-clause-letter
returns-in-None-clause-letter g c =
    let h = c.args.self.now.history in
    let some = Handed 0 c.args.call in
    let found = sym (c.requires.settled some) ∙ sym (c.in_ok-value.ensures.shared some) ∙ c.in-None.is in
    sym (ap (λ o. letter_of c.args.call (option_map (λ v. (v, joined h c.args.call)) o)) found)
