use Rattle.std.proofs.Common.{rules, ◌≡◌, ◌-◌, ◌<◌, [], ◌∷◌, ◌++◌, length, Some, None, refl, string_bytes, sym, ap, ◌∙◌, arith}
use Rattle.json.specs.Token.{Token}
use Rattle.json.specs.Json as json
use Rattle.json.specs.Json.{parse_map, after_end_array, read_key, items, members, value}
use Rattle.json.proofs.Grammar.{value_is, read_key-shorter}
use Rattle.serde_json.specs.Data.{null, boolean, number, string, put}
use Rattle.serde_json.specs.Read.{of_json, of_items, of_members, converted, number_of}
use Rattle.serde_json.specs.View.{view, number_view, items_view, members_view}
use Rattle.serde_json.specs.declared.value.Value.{String, Number, Bool, Null, the_lemmas}
use Rattle.serde_json.proofs.Views.{view-Array, view-Object, members_view-insert_entry}
use Rattle.pulled_json.proofs.Pulls.{item_more, item_end, member_more, member_end, list_value, object_value, items_before, before_none, before_more, plain_value}
use Rattle.pulled_json.proofs.values.+pulls.Goals as goal

pub list_from-items-preserved : goal.list_from-items-preserved
list_from-items-preserved t c =
    let l = c.items in
    let n = l.invariant.0 in
    let going : (after_end_array l.reader ≡ None) × (c.take_end_array.new.self ≡ l.reader) = grind arith in
    let done = c.in_ok-item.ensures in
    let v = c.in_ok-item.item in
    let r = c.value_from.new.reader in
    let less : length r < length l.reader = rw (← going.1) done.shorter in
    let turn = item_more (value c.args.depth) n l.reader r (view v) (omega (arith, l.invariant.1)) going.0 (rw (← going.1) done.value) in
    let pushed : c.push.new.self.items ≡ l.found.items ++ v ∷ [] = search rules in (
      n - 1,
      omega (arith, l.invariant.1, less),
      l.invariant.2 ∙ ap (parse_map (items_before l.found.items)) turn ∙ before_more l.found.items v _
          ∙ ap (λ vs. parse_map (items_before vs) (converted of_items (items (value c.args.depth) (n - 1) r))) (sym pushed),
      omega (arith, l.invariant.3, less),
    )

pub list_from-returns-clause-value : goal.list_from-returns-clause-value
list_from-returns-clause-value t c =
    let l = c.items in
    let n = l.invariant.0 in
    let r = c.take_end_array.new.self in
    l.invariant.2 ∙ ap (parse_map (items_before l.found.items)) (item_end (value c.args.depth) n l.reader r l.invariant.1 (grind arith)) ∙ ap (λ ds. Some (ds, r)) (before_none l.found.items)

pub object_from-members-preserved : goal.object_from-members-preserved
object_from-members-preserved t c =
    let l = c.members in
    let n = l.invariant.0 in
    let old = members_view l.found.entries in
    let k = c.in-Some.name.now in
    let s = c.next_key.new.self in
    let named : read_key l.reader ≡ Some (Some k, s) = grind arith in
    let done = c.in_ok-member.ensures in
    let v = c.in_ok-member.member in
    let r = c.value_from.new.reader in
    let less = read_key-shorter l.reader (Some k) s named in
    let lesser = done.shorter in
    let copied : string_bytes c.in-Ok-from_str.key ≡ k = search rules in
    let inserted : members_view c.insert.new.self.entries ≡ put k (view v) old =
    ap members_view c.in-Ok-insert.ensures.entries ∙ members_view-insert_entry l.found.entries c.in-Ok-from_str.key v ∙ ap (λ name. put name (view v) old) copied in (
      n - 1,
      omega (arith, l.invariant.1),
      l.invariant.2 ∙ member_more (value c.args.depth) old n k l.reader s r (view v) (omega (arith, l.invariant.1)) named done.value
          ∙ ap (λ found. converted (λ ms. of_members ms found) (members (value c.args.depth) (n - 1) r)) (sym inserted),
      omega (arith, l.invariant.3),
    )

pub object_from-returns-clause-value : goal.object_from-returns-clause-value
object_from-returns-clause-value t c =
    let l = c.members in
    l.invariant.2 ∙ member_end (value c.args.depth) (members_view l.found.entries) l.invariant.0 l.reader c.next_key.new.self l.invariant.1 (grind arith)

pub value_from-returns-in-Ok-clause-value : goal.value_from-returns-in-Ok-clause-value
value_from-returns-in-Ok-clause-value t c =
    let first : c.args.reader.now ≡ Token.string c.in-String.text.now ∷ c.next.new.self = grind arith in
    let seen : view (String c.in-Ok.text) ≡ string c.in-String.text.now = search (rules, the_lemmas) in
    plain_value c.args.depth _ c.args.reader.now c.next.new.self (json.string c.in-String.text.now) (string c.in-String.text.now) first (value_is c.args.depth _) refl ∙ ap (λ d. Some (d, c.next.new.self)) (sym seen)

pub value_from-returns-in_ok-number_at-in-Number-clause-value : goal.value_from-returns-in_ok-number_at-in-Number-clause-value
value_from-returns-in_ok-number_at-in-Number-clause-value t c =
    let first : c.args.reader.now ≡ Token.number c.in-Number.text.now ∷ c.next.new.self = grind arith in
    let x = c.in_ok-number_at-in-Number.field-0 in
    let is : number_of c.in-Number.text.now ≡ Some (number_view x) = search rules in
    let seen : view (Number x) ≡ number (number_view x) = search (rules, the_lemmas) in
    plain_value c.args.depth _ c.args.reader.now c.next.new.self (json.number c.in-Number.text.now) (number (number_view x)) first (value_is c.args.depth _) (rw is) ∙ ap (λ d. Some (d, c.next.new.self)) (sym seen)

pub value_from-returns-in-Bool-clause-value : goal.value_from-returns-in-Bool-clause-value
value_from-returns-in-Bool-clause-value t c =
    let first : c.args.reader.now ≡ Token.boolean c.in-Bool.b ∷ c.next.new.self = grind arith in
    let seen : view (Bool c.in-Bool.b) ≡ boolean c.in-Bool.b = search (rules, the_lemmas) in
    plain_value c.args.depth _ c.args.reader.now c.next.new.self (json.boolean c.in-Bool.b) (boolean c.in-Bool.b) first (value_is c.args.depth _) refl ∙ ap (λ d. Some (d, c.next.new.self)) (sym seen)

pub value_from-returns-in-Null-clause-value : goal.value_from-returns-in-Null-clause-value
value_from-returns-in-Null-clause-value t c =
    let first : c.args.reader.now ≡ Token.null ∷ c.next.new.self = grind arith in
    let seen : view Null ≡ null = search (rules, the_lemmas) in
    plain_value c.args.depth _ c.args.reader.now c.next.new.self json.null null first (value_is c.args.depth _) refl ∙ ap (λ d. Some (d, c.next.new.self)) (sym seen)

pub value_from-returns-in_ok-list_from-in-BeginArray-clause-value : goal.value_from-returns-in_ok-list_from-in-BeginArray-clause-value
value_from-returns-in_ok-list_from-in-BeginArray-clause-value t c =
    let first : c.args.reader.now ≡ Token.begin_array ∷ c.next.new.self = grind arith in
    let found = c.in_ok-list_from-in-BeginArray in
    ap (λ ts. converted of_json (value c.args.depth ts)) first ∙ list_value c.args.depth c.next.new.self c.list_from.new.reader (items_view found.field-0.items) (omega arith) found.ensures.value ∙ ap (λ d. Some (d, c.list_from.new.reader)) (sym (view-Array found.field-0))

pub value_from-returns-in_ok-object_from-in-BeginObject-clause-value : goal.value_from-returns-in_ok-object_from-in-BeginObject-clause-value
value_from-returns-in_ok-object_from-in-BeginObject-clause-value t c =
    let first : c.args.reader.now ≡ Token.begin_object ∷ c.next.new.self = grind arith in
    let found = c.in_ok-object_from-in-BeginObject in
    ap (λ ts. converted of_json (value c.args.depth ts)) first ∙ object_value c.args.depth c.next.new.self c.object_from.new.reader (members_view found.field-0.entries) (omega arith) found.ensures.value ∙ ap (λ d. Some (d, c.object_from.new.reader)) (sym (view-Object found.field-0))
