-- the JSON that a record's text is, and the event that it reads as
use Rattle.std.proofs.Common.{◌≡◌, ℕ, ◌≤◌, List, [], Option, Some, None, Result, Ok, Err, codes, decimal, sym, ◌∙◌, ap, append-nil, append_assoc, option_and_then}
use Rattle.json.specs.Json as json
use Rattle.json.specs.Print.{print, print_from, escape_byte}
use Rattle.json.specs.Tree.{json_tokens, HasNumbers, depth}
use Rattle.json.proofs.Printed.Tokens.{tokens-print}
use Rattle.json.proofs.Printed.Trees.{value-json_tokens, ArePrintable-json_tokens}
use Rattle.serde_json.specs.Read.{read, of_json, max_depth}
use Rattle.sf_history.specs.declared.call.CallId.{CallId}
use Rattle.sf_history.specs.declared.event.Event.TheVariants.{Lead, Enter, Forget, ForgetCall, Settle, Handed}
use Rattle.sf_history.specs.declared.event.Hit.TheVariants.{Closed, Cleared, Missed}
use Rattle.sf_history.specs.Hits.{hit_text}
use Rattle.sf_replay.specs.Record.{TextEvent}
use Rattle.sf_replay.specs.Written.{record_text, record_with}

-- ---- what is printed for a value is read as it

pub read_printed : (j : json.Json) → HasNumbers j → depth j ≤ max_depth → read (print (json_tokens j)) ≡ of_json j
read_printed j numbers shallow =
    let printed = tokens-print (json_tokens j) (ArePrintable-json_tokens j numbers) in
    let value = ap (json.value max_depth) (printed ∙ sym (append-nil (json_tokens j))) ∙ value-json_tokens j max_depth [] shallow in
    ap (λ p. option_and_then of_json (option_and_then (λ q. json.if_last q.0 q.1) p)) value

-- ---- the records as values

abbrev pub call_of : CallId → json.Json
call_of c = json.array (json.item (json.number (decimal c.caller)) (json.item (json.number (decimal c.generation)) json.no_items))

abbrev pub option_of : Option CallId → json.Json
option_of None = json.null
option_of (Some c) = call_of c

abbrev pub result_of : Result (List ℕ) (List ℕ) → json.Members → json.Members
result_of (Ok value) more = json.member (codes "ok") (json.string value) more
result_of (Err error) more = json.member (codes "err") (json.string error) more

abbrev pub begun : List ℕ → ℕ → json.Members → json.Json
begun kind by more = json.object (json.member (codes "e") (json.string kind) (json.member (codes "by") (json.number (decimal by)) more))

abbrev pub json_of_event : TextEvent → json.Json
json_of_event (Lead by key call own) =
    begun (codes "lead") by (json.member (codes "k") (json.string key) (json.member (codes "c") (call_of call) (json.member (codes "own") (option_of own) json.no_members)))
json_of_event (Enter by key call member) =
    begun (codes "enter") by (json.member (codes "k") (json.string key) (json.member (codes "c") (call_of call) (json.member (codes "m") (call_of member) json.no_members)))
json_of_event (Forget by key closed) =
    begun (codes "forget") by (json.member (codes "k") (json.string key) (json.member (codes "closed") (option_of closed) json.no_members))
json_of_event (ForgetCall by key call hit) =
    begun (codes "forgetcall") by (json.member (codes "k") (json.string key) (json.member (codes "c") (call_of call) (json.member (codes "hit") (json.string (hit_text hit)) json.no_members)))
json_of_event (Settle by call result joiners) =
    begun (codes "settle") by (json.member (codes "c") (call_of call) (result_of result (json.member (codes "joiners") (json.number (decimal joiners)) json.no_members)))
json_of_event (Handed by call) = begun (codes "handed") by (json.member (codes "c") (call_of call) json.no_members)

pub printed : (e : TextEvent) → print (json_tokens (json_of_event e)) ≡ record_text e
unfolding print_from escape_byte record_with
printed (Lead by key call None) = simp append_assoc
printed (Lead by key call (Some own)) = simp append_assoc
printed (Enter by key call member) = simp append_assoc
printed (Forget by key None) = simp append_assoc
printed (Forget by key (Some closed)) = simp append_assoc
printed (ForgetCall by key call Closed) = simp append_assoc
printed (ForgetCall by key call Cleared) = simp append_assoc
printed (ForgetCall by key call Missed) = simp append_assoc
printed (Settle by call (Ok value) joiners) = simp append_assoc
printed (Settle by call (Err error) joiners) = simp append_assoc
printed (Handed by call) = simp append_assoc
