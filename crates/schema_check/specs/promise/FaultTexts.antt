-- The texts of faults of schemas: the way to the node, and the rule's name.
use Rattle.std.specs.Prelude.{ℕ, List, codes}
use Rattle.schema_check.specs.declared.rule.SchemaRule.{SchemaRule}
use Rattle.schema_check.specs.declared.rule.SchemaRule.TheVariants as schema

-- a rule's name, without the fault that it holds
abbrev pub schema_rule_text : SchemaRule → List ℕ
schema_rule_text schema.Released = codes "Released"
schema_rule_text (schema.Format fault) = codes "Format"
schema_rule_text (schema.Meta fault) = codes "Meta"
schema_rule_text schema.ChildCount = codes "ChildCount"
schema_rule_text schema.DictIndexType = codes "DictIndexType"
schema_rule_text schema.MapShape = codes "MapShape"
schema_rule_text schema.Deep = codes "Deep"
