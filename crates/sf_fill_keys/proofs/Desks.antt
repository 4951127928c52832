-- how many desks a directory has, and whose they are
use Rattle.std.proofs.Common.{◌≡◌, ℕ, List, All, length, inl, sym, ap, ◌∙◌, subst}
use Rattle.std.proofs.lemmas.List.{length-map}
use Rattle.std.proofs.lemmas.List.Elements.{All-map}
use Rattle.std.proofs.lemmas.List.FromFn.{length-range_with_len}
use Rattle.std.specs.List.{range_with_len}
use Rattle.sf_dir.specs.Known.{DirectoryId, DeskState, IsNewDesk, numbers_of}
use Rattle.sf_fill_keys.specs.declared.key_space.KeyDesk.{KeyDesk}
use Rattle.sf_fill_keys.specs.declared.key_space.KeyDesk.TheVariants as desk
use Rattle.sf_fill_keys.specs.Spaces.{AreDesksOf, by_directory, IsDeskOf}

pub as_many : (desks : List DeskState) (made : List KeyDesk) (n : ℕ) → made ≡ by_directory desks → numbers_of desks ≡ range_with_len 1 n → length made ≡ n
as_many desks made n is numbers =
    ap length is ∙ length-map desks desk.Directory ∙ sym (length-map desks (λ (d : DeskState). d.number)) ∙ ap length numbers ∙ length-range_with_len 1 n

pub desks_of_directory : (d : DirectoryId) (desks : List DeskState) (made : List KeyDesk) → made ≡ by_directory desks → All (IsNewDesk d) desks → AreDesksOf (inl d) made
desks_of_directory d desks made is all = subst (λ (xs : List KeyDesk). AreDesksOf (inl d) xs) (sym is) (All-map (IsDeskOf (inl d)) desk.Directory desks (λ k e within. (all k e within).0))
