-- the order that is derived for standings is that of their fields, in their order
use Rattle.std.proofs.Common.{◌≡◌, ◌+◌, List, get_or, refl, sym, ◌∙◌, ap}
use Rattle.std.specs.Prelude.{IsSortedByKey}
use Rattle.std.specs.Ordering.{bool_cmp, is_lt, nat_cmp, ordering_then}
use Rattle.sf_replay.specs.Merged.{part_number, standing_cmp}
use Rattle.sf_replay.specs.contracts.merging.PartOrd.TheImpl as part_order
use Rattle.sf_replay.specs.contracts.merging.StandingOrd.TheImpl as standing_order
use Rattle.sf_replay.specs.declared.merging.Part.{Part}
use Rattle.sf_replay.specs.declared.merging.Part.TheVariants.{Lead as LeadPart, Enter as EnterPart, Forget as ForgetPart, Settle as SettlePart, Handed as HandedPart, Cleared as ClearedPart}
use Rattle.sf_replay.specs.declared.merging.Standing.{Standing}

-- that of parts is that of their numbers
part_same : (a b : Part) → part_order.ghosts.cmp a b ≡ nat_cmp (part_number a) (part_number b)
part_same LeadPart LeadPart = refl
part_same LeadPart EnterPart = refl
part_same LeadPart ForgetPart = refl
part_same LeadPart SettlePart = refl
part_same LeadPart HandedPart = refl
part_same LeadPart ClearedPart = refl
part_same EnterPart LeadPart = refl
part_same EnterPart EnterPart = refl
part_same EnterPart ForgetPart = refl
part_same EnterPart SettlePart = refl
part_same EnterPart HandedPart = refl
part_same EnterPart ClearedPart = refl
part_same ForgetPart LeadPart = refl
part_same ForgetPart EnterPart = refl
part_same ForgetPart ForgetPart = refl
part_same ForgetPart SettlePart = refl
part_same ForgetPart HandedPart = refl
part_same ForgetPart ClearedPart = refl
part_same SettlePart LeadPart = refl
part_same SettlePart EnterPart = refl
part_same SettlePart ForgetPart = refl
part_same SettlePart SettlePart = refl
part_same SettlePart HandedPart = refl
part_same SettlePart ClearedPart = refl
part_same HandedPart LeadPart = refl
part_same HandedPart EnterPart = refl
part_same HandedPart ForgetPart = refl
part_same HandedPart SettlePart = refl
part_same HandedPart HandedPart = refl
part_same HandedPart ClearedPart = refl
part_same ClearedPart LeadPart = refl
part_same ClearedPart EnterPart = refl
part_same ClearedPart ForgetPart = refl
part_same ClearedPart SettlePart = refl
part_same ClearedPart HandedPart = refl
part_same ClearedPart ClearedPart = refl

standing_same : (a b : Standing) → standing_order.ghosts.cmp a b ≡ standing_cmp a b
standing_same a b =
    λ i. ordering_then (bool_cmp a.unled b.unled)
    (ordering_then (nat_cmp a.key b.key)
    (ordering_then (bool_cmp a.of_call b.of_call)
    (ordering_then (nat_cmp a.caller b.caller)
    (ordering_then (nat_cmp a.generation b.generation)
    (ordering_then (part_same a.part b.part i)
    (ordering_then (nat_cmp a.member_caller b.member_caller) (nat_cmp a.member_generation b.member_generation)))))))

-- so what is sorted by the one is sorted by the other
pub sorted_by_fields : {X : Type 0} (key : X → Standing) (xs : List X) → IsSortedByKey key standing_order.ghosts.cmp xs → IsSortedByKey key standing_cmp xs
sorted_by_fields key xs up k d low high = ap is_lt (sym (standing_same (key (get_or xs (k + 1) d)) (key (get_or xs k d)))) ∙ up k d low high
