mod UnitLaws
