-- a line that says turns is ASCII, so a line that is no text says none
use Rattle.std.proofs.Common.{ℕ, ◌<◌, List, Ok, Err, inl, inr, sym, subst, arith, lit<}
use Rattle.std.proofs.lemmas.List.Elements.{All-from_recursion}
use Rattle.std.proofs.lemmas.Str.Ascii.{IsAscii-from_all}
use Rattle.std.specs.List.{AllByRecursion}
use Rattle.std.specs.Str.{IsAscii}
use Rattle.sf_text.specs.Words.{words, IsNumber}
use Rattle.sf_text.proofs.Ascii.{AreAscii, ascii_from_parts, token_ascii, number_ascii, call_ascii}
use Rattle.sf_steps_laws.specs.declared.operation.Op.{Op}
use Rattle.sf_steps_laws.specs.declared.operation.Op.TheVariants as op
use Rattle.sf_steps_text.specs.declared.schedule_line.ScheduleLine.{ScheduleLine}
use Rattle.sf_steps_text.specs.declared.schedule_line.ScheduleLine.TheVariants.{Do, Steps, Drop}
use Rattle.sf_steps_text.specs.ScheduleText.{IsSmall, SpellsOp, Spells}
use Rattle.sf_steps_text.specs.TraceText.{Outcome}

small_ascii : (w : List ℕ) (a : ℕ) → IsSmall w a → AreAscii w
small_ascii w a is = number_ascii 64 w a (omega arith) is

count_ascii : (w : List ℕ) (n : ℕ) → IsNumber 1000 w n → AreAscii w
count_ascii w n is = number_ascii 1000 w n (omega arith) is

op_ascii : (ws : List (List ℕ)) (o : Op Outcome) → SpellsOp ws o → AllByRecursion AreAscii ws
op_ascii ws (op.Ask k) (x, place, is) = subst (AllByRecursion AreAscii) (sym is) ((lit< tt, (lit< tt, (lit< tt, tt))), (small_ascii x k place, tt))
op_ascii ws (op.Chan b k) (x, y, second, place, is) =
    subst (AllByRecursion AreAscii) (sym is) ((lit< tt, (lit< tt, (lit< tt, (lit< tt, tt)))), (small_ascii x b second, (small_ascii y k place, tt)))
op_ascii ws (op.Settle (Ok v)) (token, is) =
    subst (AllByRecursion AreAscii) (sym is) ((lit< tt, (lit< tt, (lit< tt, (lit< tt, (lit< tt, (lit< tt, tt)))))), ((lit< tt, (lit< tt, tt)), (token_ascii v token, tt)))
op_ascii ws (op.Settle (Err v)) (token, is) =
    subst (AllByRecursion AreAscii) (sym is) ((lit< tt, (lit< tt, (lit< tt, (lit< tt, (lit< tt, (lit< tt, tt)))))), ((lit< tt, (lit< tt, (lit< tt, tt))), (token_ascii v token, tt)))
op_ascii ws (op.Forget k) (x, place, is) =
    subst (AllByRecursion AreAscii) (sym is) ((lit< tt, (lit< tt, (lit< tt, (lit< tt, (lit< tt, (lit< tt, tt)))))), (small_ascii x k place, tt))
op_ascii ws (op.ForgetCall k c) (x, y, place, named, is) =
    subst (AllByRecursion AreAscii) (sym is) ((lit< tt, (lit< tt, (lit< tt, (lit< tt, (lit< tt, (lit< tt, (lit< tt, (lit< tt, (lit< tt, (lit< tt, tt)))))))))), (small_ascii x k place, (call_ascii y c named, tt)))
op_ascii ws (op.Named k) (x, place, is) =
    subst (AllByRecursion AreAscii) (sym is) ((lit< tt, (lit< tt, (lit< tt, (lit< tt, (lit< tt, tt))))), (small_ascii x k place, tt))
op_ascii ws op.Poll is = subst (AllByRecursion AreAscii) (sym is) ((lit< tt, (lit< tt, (lit< tt, (lit< tt, tt)))), tt)
op_ascii ws (op.Current k c) (x, y, place, named, is) =
    subst (AllByRecursion AreAscii) (sym is) ((lit< tt, (lit< tt, (lit< tt, (lit< tt, (lit< tt, (lit< tt, (lit< tt, tt))))))), (small_ascii x k place, (call_ascii y c named, tt)))

line_ascii : (ws : List (List ℕ)) (l : ScheduleLine) → Spells ws l → AllByRecursion AreAscii ws
line_ascii ws (Do a o) (x, rest, caller, does, is) = subst (AllByRecursion AreAscii) (sym is) ((lit< tt, (lit< tt, tt)), (small_ascii x a caller, op_ascii rest o does))
line_ascii ws (Steps a n) (x, caller, inl one) =
    subst (AllByRecursion AreAscii) (sym one.1) ((lit< tt, (lit< tt, (lit< tt, (lit< tt, tt)))), (small_ascii x a caller, tt))
line_ascii ws (Steps a n) (x, caller, inr (y, count, is)) =
    subst (AllByRecursion AreAscii) (sym is) ((lit< tt, (lit< tt, (lit< tt, (lit< tt, tt)))), (small_ascii x a caller, (count_ascii y n count, tt)))
line_ascii ws (Drop a) (x, caller, is) = subst (AllByRecursion AreAscii) (sym is) ((lit< tt, (lit< tt, (lit< tt, (lit< tt, tt)))), (small_ascii x a caller, tt))

-- a line that says turns is ASCII
pub schedule_line_ascii : (line : List ℕ) (l : ScheduleLine) → Spells (words line) l → IsAscii line
schedule_line_ascii line l is = IsAscii-from_all line (All-from_recursion (λ b. b < 128) line (ascii_from_parts line (line_ascii (words line) l is)))
