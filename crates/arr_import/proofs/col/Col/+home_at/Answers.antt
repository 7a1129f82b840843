use Rattle.std.proofs.Common.{refl, ap, sym, ◌∙◌, true≢false, arith}
use Rattle.data_types.specs.promise.TypedView.{typed_of}
use Rattle.arr_import.specs.Window.{Home, home_of}
use Rattle.arr_import.specs.Cols.{window_of}
use Rattle.arr_import.proofs.Reading.{home-entry, home-null, home-plain, fewer-levels}
use Rattle.arr_import.proofs.col.Col.+home_at.Goals as goal

pub kinds_of_typed-requires : goal.kinds_of_typed-requires
kinds_of_typed-requires t c = tt

pub lawful_has_no_fault-requires : goal.lawful_has_no_fault-requires
lawful_has_no_fault-requires t c = tt

pub lawful_root-requires : goal.lawful_root-requires
lawful_root-requires t c = λ k d h. c.lawful_has_no_fault.ensures.0 c.args.self.now.lawful k d h

pub is_valid-requires : goal.is_valid-requires
is_valid-requires t c = c.requires

pub returns-then-not-is_valid-clause-inside : goal.returns-then-not-is_valid-clause-inside
returns-then-not-is_valid-clause-inside t c = c.requires

pub returns-then-not-is_valid-clause-value : goal.returns-then-not-is_valid-clause-value
returns-then-not-is_valid-clause-value t c = refl

pub returns-then-not-is_valid-clause-own : goal.returns-then-not-is_valid-clause-own
returns-then-not-is_valid-clause-own t c = λ e. absurd (true≢false (sym e ∙ sym c.is_valid.ensures ∙ c.if-not-is_valid.true))

pub dictionary-requires : goal.dictionary-requires
dictionary-requires t c = tt

pub entry-requires-clause-inside : goal.entry-requires-clause-inside
entry-requires-clause-inside t c = c.requires

pub entry-requires-clause-valid : goal.entry-requires-clause-valid
entry-requires-clause-valid t c = sym c.is_valid.ensures ∙ c.if-not-is_valid.false

pub entry-requires-clause-dictionary : goal.entry-requires-clause-dictionary
entry-requires-clause-dictionary t c = c.in-Some.ensures

pub home_at-requires : goal.home_at-requires
home_at-requires t c =
    let col = c.args.self.now in
    let w = typed_of c.in-Some.dictionary.typed.now in
    (omega (arith, c.decreases, fewer-levels col.typed.now c.kinds_of_typed.ensures w c.in-Some.ensures.typed), c.entry.ensures.inside)

pub returns-in-Some-clause-window : goal.returns-in-Some-clause-window
returns-in-Some-clause-window t c =
    let col = c.args.self.now in
    let w = window_of c.in-Some.dictionary in
    let valid = sym c.is_valid.ensures ∙ c.if-not-is_valid.false in
    let live = c.lawful_root.ensures.live in
    let entry = home-entry col.typed.now c.kinds_of_typed.ensures col.array.now col.start col.count c.args.i live valid w c.in-Some.ensures in
    c.home_at.ensures.window ∙ ap (λ i. (home_of w i).window) c.entry.ensures.index ∙ ap (λ (h : Home). h.window) (sym entry)

pub returns-in-Some-clause-place : goal.returns-in-Some-clause-place
returns-in-Some-clause-place t c =
    let col = c.args.self.now in
    let w = window_of c.in-Some.dictionary in
    let valid = sym c.is_valid.ensures ∙ c.if-not-is_valid.false in
    let live = c.lawful_root.ensures.live in
    let entry = home-entry col.typed.now c.kinds_of_typed.ensures col.array.now col.start col.count c.args.i live valid w c.in-Some.ensures in
    c.home_at.ensures.place ∙ ap (λ i. (home_of w i).place) c.entry.ensures.index ∙ ap (λ (h : Home). h.place) (sym entry)

pub returns-in-Some-clause-inside : goal.returns-in-Some-clause-inside
returns-in-Some-clause-inside t c = c.home_at.ensures.inside

pub returns-in-Some-clause-value : goal.returns-in-Some-clause-value
returns-in-Some-clause-value t c = c.home_at.ensures.value ∙ c.entry.ensures.value

pub returns-in-Some-clause-own : goal.returns-in-Some-clause-own
returns-in-Some-clause-own t c = c.home_at.ensures.own

pub returns-in-None-clause-window : goal.returns-in-None-clause-window
returns-in-None-clause-window t c =
    let col = c.args.self.now in
    ap (λ (h : Home). h.window) (sym (home-plain col.typed.now c.kinds_of_typed.ensures col.array.now col.start col.count c.args.i c.in-None.ensures))

pub returns-in-None-clause-place : goal.returns-in-None-clause-place
returns-in-None-clause-place t c =
    let col = c.args.self.now in
    ap (λ (h : Home). h.place) (sym (home-plain col.typed.now c.kinds_of_typed.ensures col.array.now col.start col.count c.args.i c.in-None.ensures))

pub returns-in-None-clause-inside : goal.returns-in-None-clause-inside
returns-in-None-clause-inside t c = c.requires

pub returns-in-None-clause-value : goal.returns-in-None-clause-value
returns-in-None-clause-value t c = refl

pub returns-in-None-clause-own : goal.returns-in-None-clause-own
returns-in-None-clause-own t c = λ _. c.in-None.ensures

pub returns-then-not-is_valid-clause-window : goal.returns-then-not-is_valid-clause-window
returns-then-not-is_valid-clause-window t c =
    let col = c.args.self.now in
    let null = sym c.is_valid.ensures ∙ c.if-not-is_valid.true in
    ap (λ (h : Home). h.window) (sym (home-null col.typed.now c.kinds_of_typed.ensures col.array.now col.start col.count c.args.i null))

pub returns-then-not-is_valid-clause-place : goal.returns-then-not-is_valid-clause-place
returns-then-not-is_valid-clause-place t c =
    let col = c.args.self.now in
    let null = sym c.is_valid.ensures ∙ c.if-not-is_valid.true in
    ap (λ (h : Home). h.place) (sym (home-null col.typed.now c.kinds_of_typed.ensures col.array.now col.start col.count c.args.i null))
