-- Only contracts need this file. The model of a `TemplateBuilder`.
use Rattle.bufr_tables.specs.declared.expand.TemplateBuilder.{TemplateBuilder}
use Rattle.bufr_tables.specs.Growth.{BuilderModel, growth}

abbrev pub builder_model : TemplateBuilder → BuilderModel
builder_model g = growth g.cells.items g.open_groups g.depth g.consumes
