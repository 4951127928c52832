-- Two keys of one length with the same words are one key.
use Rattle.std.proofs.Common.{Fits, w8, ◌≡◌, ℕ, zero, suc, ◌+◌, ◌*◌, ◌/◌, ◌%◌, ◌<◌, List, [], ◌∷◌, length, get_or, drop, refl, sym, ap, ◌∙◌, subst, arith}
use Rattle.std.specs.Prelude.{slice_index}
use Rattle.std.proofs.Math.Facts.{Fits-lt-pow}
use Rattle.std.specs.Int.{w64, from_le_bytes, to_le_bytes}
use Rattle.std.proofs.lemmas.List.{get_or-drop, same_lists, get_or_default, get_or_past}
use Rattle.std.proofs.lemmas.Nat.{le_bytes_8}
use Rattle.sf_dir.specs.KeyRow.{key_word, words_of}

-- the first eight, zeros past the end
eight : List ℕ → List ℕ
eight x = get_or x 0 0 ∷ get_or x 1 0 ∷ get_or x 2 0 ∷ get_or x 3 0 ∷ get_or x 4 0 ∷ get_or x 5 0 ∷ get_or x 6 0 ∷ get_or x 7 0 ∷ []

eight_is : (x : List ℕ) (i : ℕ) → i < 8 → get_or (eight x) i 0 ≡ get_or x i 0
unfolding eight
eight_is x zero lt = refl
eight_is x (suc zero) lt = refl
eight_is x (suc (suc zero)) lt = refl
eight_is x (suc (suc (suc zero))) lt = refl
eight_is x (suc (suc (suc (suc zero)))) lt = refl
eight_is x (suc (suc (suc (suc (suc zero))))) lt = refl
eight_is x (suc (suc (suc (suc (suc (suc zero)))))) lt = refl
eight_is x (suc (suc (suc (suc (suc (suc (suc zero))))))) lt = refl
eight_is x (suc (suc (suc (suc (suc (suc (suc (suc i)))))))) lt = absurd (omega arith)

eight_small : (x : List ℕ) → ((i : ℕ) → get_or x i 0 < 256) → (i : ℕ) → get_or (eight x) i 0 < 256
unfolding eight
eight_small x h zero = h 0
eight_small x h (suc zero) = h 1
eight_small x h (suc (suc zero)) = h 2
eight_small x h (suc (suc (suc zero))) = h 3
eight_small x h (suc (suc (suc (suc zero)))) = h 4
eight_small x h (suc (suc (suc (suc (suc zero))))) = h 5
eight_small x h (suc (suc (suc (suc (suc (suc zero)))))) = h 6
eight_small x h (suc (suc (suc (suc (suc (suc (suc zero))))))) = h 7
eight_small x h (suc (suc (suc (suc (suc (suc (suc (suc i)))))))) = let e = get_or_past (eight x) (suc (suc (suc (suc (suc (suc (suc (suc i)))))))) 0 (omega arith) in omega arith

eight_bytes : (x : List ℕ) (n : ℕ) → ((i : ℕ) → get_or x i 0 < 256) → n ≡ from_le_bytes w64 x → to_le_bytes w64 n ≡ eight x
unfolding eight
eight_bytes x n h e = le_bytes_8 (eight x) n refl (eight_small x h) e

-- the bytes of a word of a key
word_bytes : (key : List ℕ) (index : ℕ) → ((i : ℕ) → slice_index key i < 256) → to_le_bytes w64 (key_word key index) ≡ eight (drop (index * 8) key)
unfolding key_word
word_bytes key index small = eight_bytes (drop (index * 8) key) (key_word key index) (λ i. subst (λ n. n < 256) (sym (get_or-drop (index * 8) key i 0)) (small (index * 8 + i))) refl

pub same_key : (a b : List ℕ) → ((i : ℕ) → slice_index a i < 256) → ((i : ℕ) → slice_index b i < 256) → length a ≡ length b → ((i : ℕ) → i < words_of (length a) → key_word a i ≡ key_word b i) → a ≡ b
same_key a b small_a small_b len words = same_lists a b len (λ k d lt.
    let low : k % 8 < 8 = omega arith in
    let split : k / 8 * 8 + k % 8 ≡ k = omega arith in
    let bytes : eight (drop (k / 8 * 8) a) ≡ eight (drop (k / 8 * 8) b) = sym (word_bytes a (k / 8) small_a) ∙ (ap (to_le_bytes w64) (words (k / 8) (omega arith)) ∙ word_bytes b (k / 8) small_b) in
    let there : (x : List ℕ) → get_or (eight (drop (k / 8 * 8) x)) (k % 8) 0 ≡ get_or x k 0 = λ x. eight_is (drop (k / 8 * 8) x) (k % 8) low ∙ (get_or-drop (k / 8 * 8) x (k % 8) 0 ∙ ap (λ j. get_or x j 0) split) in
    get_or_default a k d 0 lt ∙ (sym (there a) ∙ (ap (λ x. get_or x (k % 8) 0) bytes ∙ (there b ∙ sym (get_or_default b k d 0 (omega arith))))))

pub bytes_small : (key : List ℕ) → ((i : ℕ) → Fits w8 (get_or key i 0)) → (i : ℕ) → slice_index key i < 256
bytes_small key fits i = Fits-lt-pow (fits i)
