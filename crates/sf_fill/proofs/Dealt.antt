-- getters that are made from the last desk on
use Rattle.std.proofs.Common.{◌≡◌, ℕ, List, [], ◌∷◌, ◌++◌, reverse, length, refl, sym, ap, ◌∙◌, append_assoc, arith}
use Rattle.std.proofs.lemmas.List.{reverse-append}
use Rattle.sf_group_rows.specs.Tokens.{CallerValue}
use Rattle.sf_fill_keys.specs.declared.key_space.KeyDesk.{KeyDesk}
use Rattle.sf_fill_values.specs.FillValue.{Filled}
use Rattle.sf_fill.specs.GetterValue.{GetterValue, new_getter}
use Rattle.sf_fill.specs.Made.{new_getters}

module _ {L : Type 0} (room : ℕ) where
  dealt_last : (ds : List KeyDesk) (cs : List (CallerValue Filled)) (ls : List L) (d : KeyDesk) (c : CallerValue Filled) (l : L)
      → length cs ≡ length ds → length ls ≡ length ds
      → new_getters room (ds ++ d ∷ []) (cs ++ c ∷ []) (ls ++ l ∷ []) ≡ new_getters room ds cs ls ++ new_getter room d c l ∷ []
  dealt_last [] [] [] d c l p q = refl
  dealt_last [] [] (y ∷ ls) d c l p q = absurd (omega arith)
  dealt_last [] (x ∷ cs) ls d c l p q = absurd (omega arith)
  dealt_last (w ∷ ds) [] ls d c l p q = absurd (omega arith)
  dealt_last (w ∷ ds) (x ∷ cs) [] d c l p q = absurd (omega arith)
  dealt_last (w ∷ ds) (x ∷ cs) (y ∷ ls) d c l p q =
      let fewer : length cs ≡ length ds = omega arith in let also : length ls ≡ length ds = omega arith in
      ap (λ r. new_getter room w x y ∷ r) (dealt_last ds cs ls d c l fewer also)

  -- one more is made, and is put behind those that were made before
  pub dealt_more : (desks ds : List KeyDesk) (callers cs : List (CallerValue Filled)) (loaders ls : List L) (getters more : List (GetterValue L))
      (d : KeyDesk) (c : CallerValue Filled) (l : L) (getter : GetterValue L)
      → desks ≡ ds ++ d ∷ [] → callers ≡ cs ++ c ∷ [] → loaders ≡ ls ++ l ∷ [] → length cs ≡ length ds → length ls ≡ length ds
      → more ≡ getters ++ getter ∷ [] → getter ≡ new_getter room d c l
      → new_getters room ds cs ls ++ reverse more ≡ new_getters room desks callers loaders ++ reverse getters
  dealt_more desks ds callers cs loaders ls getters more d c l getter di ci li p q is same =
      let all : new_getters room desks callers loaders ≡ new_getters room ds cs ls ++ new_getter room d c l ∷ [] =
      ap (λ x. new_getters room x callers loaders) di ∙ ap (λ x. new_getters room (ds ++ d ∷ []) x loaders) ci ∙ ap (λ x. new_getters room (ds ++ d ∷ []) (cs ++ c ∷ []) x) li ∙ dealt_last ds cs ls d c l p q in
      let right : reverse more ≡ new_getter room d c l ∷ reverse getters = ap reverse is ∙ reverse-append getters (getter ∷ []) ∙ ap (λ g. g ∷ reverse getters) same in
      ap (λ r. new_getters room ds cs ls ++ r) right ∙ sym (append_assoc (new_getters room ds cs ls) (new_getter room d c l ∷ []) (reverse getters)) ∙ sym (ap (λ r. r ++ reverse getters) all)
