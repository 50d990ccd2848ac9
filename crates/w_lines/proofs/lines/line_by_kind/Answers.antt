use Rattle.std.proofs.Common.{refl, sym, ◌∙◌}
use Rattle.std.specs.Prelude.{codes}
use Rattle.w_lines.specs.Spelling.{module_line, group_line, func_line, cont_line, final_line, open_line, import_line, table_line, memory_line, tag_line, global_line, export_line, start_line, elements_line, data_line, function_line, local_line, line_in}
use Rattle.w_lines.proofs.TokensRead.{ok_map}
use Rattle.w_lines.proofs.LinesRead.{kind_read, nothing_read}
use Rattle.w_lines.proofs.lines.line_by_kind.Goals as goal

pub returns-then-is : goal.returns-then-is
unfolding line_in
returns-then-is c = λ no. kind_read c.args.name.now (codes "module") module_line c.args.words.now c.module_line.result c.is.result c.is.ensures c.if-is.true refl c.module_line.ensures

pub returns-then-is-2 : goal.returns-then-is-2
unfolding line_in
returns-then-is-2 c = λ no. kind_read c.args.name.now (codes "rec") group_line c.args.words.now c.group_line.result c.is-2.result c.is-2.ensures c.if-is-2.true refl c.group_line.ensures

pub returns-then-is-3 : goal.returns-then-is-3
unfolding line_in
returns-then-is-3 c = ok_map c.func_line.result c.func_line.ensures (λ o h no. kind_read c.args.name.now (codes "func") func_line c.args.words.now o c.is-3.result c.is-3.ensures c.if-is-3.true refl h)

pub returns-then-is-4 : goal.returns-then-is-4
unfolding line_in
returns-then-is-4 c = λ no. kind_read c.args.name.now (codes "cont") cont_line c.args.words.now c.cont_line.result c.is-4.result c.is-4.ensures c.if-is-4.true refl c.cont_line.ensures

pub returns-then-is-5 : goal.returns-then-is-5
unfolding line_in
returns-then-is-5 c = ok_map c.final_line.result c.final_line.ensures (λ o h no. kind_read c.args.name.now (codes "final") final_line c.args.words.now o c.is-5.result c.is-5.ensures c.if-is-5.true refl h)

pub returns-then-is-6 : goal.returns-then-is-6
unfolding line_in
returns-then-is-6 c = ok_map c.open_line.result c.open_line.ensures (λ o h no. kind_read c.args.name.now (codes "open") open_line c.args.words.now o c.is-6.result c.is-6.ensures c.if-is-6.true refl h)

pub returns-then-is-7 : goal.returns-then-is-7
unfolding line_in
returns-then-is-7 c = ok_map c.import_line.result c.import_line.ensures (λ o h no. kind_read c.args.name.now (codes "import") import_line c.args.words.now o c.is-7.result c.is-7.ensures c.if-is-7.true refl h)

pub returns-then-is-8 : goal.returns-then-is-8
unfolding line_in
returns-then-is-8 c = λ no. kind_read c.args.name.now (codes "table") table_line c.args.words.now c.table_line.result c.is-8.result c.is-8.ensures c.if-is-8.true refl c.table_line.ensures

pub returns-then-is-9 : goal.returns-then-is-9
unfolding line_in
returns-then-is-9 c = λ no. kind_read c.args.name.now (codes "memory") memory_line c.args.words.now c.memory_line.result c.is-9.result c.is-9.ensures c.if-is-9.true refl c.memory_line.ensures

pub returns-then-is-10 : goal.returns-then-is-10
unfolding line_in
returns-then-is-10 c = λ no. kind_read c.args.name.now (codes "tag") tag_line c.args.words.now c.tag_line.result c.is-10.result c.is-10.ensures c.if-is-10.true refl c.tag_line.ensures

pub returns-then-is-11 : goal.returns-then-is-11
unfolding line_in
returns-then-is-11 c = λ no. kind_read c.args.name.now (codes "global") global_line c.args.words.now c.global_line.result c.is-11.result c.is-11.ensures c.if-is-11.true refl c.global_line.ensures

pub returns-then-is-12 : goal.returns-then-is-12
unfolding line_in
returns-then-is-12 c = ok_map c.export_line.result c.export_line.ensures (λ o h no. kind_read c.args.name.now (codes "export") export_line c.args.words.now o c.is-12.result c.is-12.ensures c.if-is-12.true refl h)

pub returns-then-is-13 : goal.returns-then-is-13
unfolding line_in
returns-then-is-13 c = λ no. kind_read c.args.name.now (codes "start") start_line c.args.words.now c.start_line.result c.is-13.result c.is-13.ensures c.if-is-13.true refl c.start_line.ensures

pub returns-then-is-14 : goal.returns-then-is-14
unfolding line_in
returns-then-is-14 c = λ no. kind_read c.args.name.now (codes "elem") elements_line c.args.words.now c.elements_line.result c.is-14.result c.is-14.ensures c.if-is-14.true refl c.elements_line.ensures

pub returns-then-is-15 : goal.returns-then-is-15
unfolding line_in
returns-then-is-15 c = ok_map c.data_line.result c.data_line.ensures (λ o h no. kind_read c.args.name.now (codes "data") data_line c.args.words.now o c.is-15.result c.is-15.ensures c.if-is-15.true refl h)

pub returns-then-is-16 : goal.returns-then-is-16
unfolding line_in
returns-then-is-16 c = λ no. kind_read c.args.name.now (codes "function") function_line c.args.words.now c.function_line.result c.is-16.result c.is-16.ensures c.if-is-16.true refl c.function_line.ensures

pub returns-then-is-17 : goal.returns-then-is-17
unfolding line_in
returns-then-is-17 c = λ no. kind_read c.args.name.now (codes "local") local_line c.args.words.now c.local_line.result c.is-17.result c.is-17.ensures c.if-is-17.true refl c.local_line.ensures

pub returns : goal.returns
returns c = λ no. nothing_read c.args.name.now c.args.words.now (rw (
  sym c.is.ensures ∙ c.if-is.false,
  sym c.is-2.ensures ∙ c.if-is-2.false,
  sym c.is-3.ensures ∙ c.if-is-3.false,
  sym c.is-4.ensures ∙ c.if-is-4.false,
  sym c.is-5.ensures ∙ c.if-is-5.false,
  sym c.is-6.ensures ∙ c.if-is-6.false,
  sym c.is-7.ensures ∙ c.if-is-7.false,
  sym c.is-8.ensures ∙ c.if-is-8.false,
  sym c.is-9.ensures ∙ c.if-is-9.false,
  sym c.is-10.ensures ∙ c.if-is-10.false,
  sym c.is-11.ensures ∙ c.if-is-11.false,
  sym c.is-12.ensures ∙ c.if-is-12.false,
  sym c.is-13.ensures ∙ c.if-is-13.false,
  sym c.is-14.ensures ∙ c.if-is-14.false,
  sym c.is-15.ensures ∙ c.if-is-15.false,
  sym c.is-16.ensures ∙ c.if-is-16.false,
  sym c.is-17.ensures ∙ c.if-is-17.false,
) refl) no
